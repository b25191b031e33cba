-- Readers of what follows an opening sign, if one may be opened.
use Rattle.std.proofs.Common.{◌≡◌, ℕ, zero, suc, ◌-◌, ◌<◌, List, refl, arith, sub-one}
use Rattle.source.specs.declared.span.Span.{Span}
use Rattle.source.specs.Tokens.{Tok}
use Rattle.syntax.specs.declared.tree.Level.TheVariants.{Disjunction}
use Rattle.parser.specs.Working.Reading.{Reader}
use Rattle.parser.specs.Working.Expressions.{inside_at, level_at, in_parens, parens_at}
use Rattle.syntax.specs.Trees.{Expr}

pub inside_at_some : (room : ℕ) → 0 < room → inside_at room ≡ level_at Disjunction (room - 1)
unfolding inside_at
inside_at_some zero h = absurd (omega arith)
inside_at_some (suc room) h = rw sub-one refl

pub parens_at_some : (room : ℕ) (inner : Reader Expr) (at : Span) (ts : List Tok) → 0 < room →
    parens_at room inner at ts ≡ in_parens inner at ts
parens_at_some zero inner at ts h = absurd (omega arith)
parens_at_some (suc room) inner at ts h = refl
