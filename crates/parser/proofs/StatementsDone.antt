-- Statements whose parts were read one after another, joined.
use Rattle.std.proofs.Common.{◌≡◌, ℕ, zero, suc, ◌-◌, ◌<◌, List, refl, arith, sub-one, Ok}
use Rattle.source.specs.declared.span.Span.{Span}
use Rattle.source.specs.Tokens.{Tok}
use Rattle.parser.specs.Working.Statements.{stmts_with, stmt_at, stmts_in, braced_at, else_with, while_with, if_with}
use Rattle.syntax.specs.Trees.{Expr, Stmts, Otherwise, while, if_then}
use Rattle.parser.specs.Working.Expressions.{condition_at}

pub stmts_in_some : (room : ℕ) → 0 < room → stmts_in room ≡ stmts_with (stmt_at (room - 1))
unfolding stmts_in
stmts_in_some zero h = absurd (omega arith)
stmts_in_some (suc room) h = rw sub-one refl

pub while_done : (room : ℕ) (start : Span) (ts t1 t2 : List Tok) (e : Expr) (b : Stmts × Span) →
    condition_at room ts ≡ Ok (e, t1) → braced_at room t1 ≡ Ok (b, t2) →
    while_with room (stmts_in room) start ts ≡ Ok (while start e b.0 b.1, t2)
unfolding while_with
while_done room start ts t1 t2 e b h g = rw (h, g) refl

pub if_done : (room : ℕ) (start : Span) (ts t1 t2 t3 : List Tok) (e : Expr) (b : Stmts × Span) (o : Otherwise) →
    condition_at room ts ≡ Ok (e, t1) → braced_at room t1 ≡ Ok (b, t2) →
    else_with room (stmts_in room) t2 ≡ Ok (o, t3) →
    if_with room (stmts_in room) start ts ≡ Ok (if_then start e b.0 b.1 o, t3)
unfolding if_with
if_done room start ts t1 t2 t3 e b o h g k = rw (h, g, k) refl
