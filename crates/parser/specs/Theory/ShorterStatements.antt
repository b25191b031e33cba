-- Readers of operands take a token at least.
use Rattle.std.proofs.Common.{◌≡◌, ℕ, ◌<◌, length, Option, Some, Ok, Result, List, refl, subst, arith}
use Rattle.std.specs.Prelude.{IfSome}
use Rattle.std.proofs.lemmas.List.{length-map}
use Rattle.source.specs.declared.token.Sign.TheVariants.{Comma}
use Rattle.source.specs.declared.token.Token.{Token}
use Rattle.source.specs.Tokens.{Tok, seen_token, seen}
use Rattle.syntax.specs.declared.tree.Operator.{Operator}
use Rattle.syntax.specs.declared.tree.Level.{Level}
use Rattle.syntax.specs.Trees.{Expr}
use Rattle.syntax.specs.Grammar.{below, ANY, IsAfter, IsExpr}
use Rattle.parser.specs.declared.stop.Stop.{Stop}
use Rattle.parser.specs.Working.Reading.{next_after}
use Rattle.parser.specs.Working.Expressions.{op_at, operand_at, expr_at}
use Rattle.parser.specs.Theory.Readers.{OnValue, Shortens}
use Rattle.parser.specs.Theory.Many.{NextShortens}
use Rattle.parser.specs.Theory.Laws.{law_shortens, next_shortens}
use Rattle.parser.specs.Theory.Joined.{after_each_next}
use Rattle.parser.specs.Theory.Chains.{op_shortens}
use Rattle.parser.specs.Theory.Productions.{operand_law, expr_law}

pub operand_shortens : (k : Level) (room : ℕ) → Shortens (operand_at k room)
operand_shortens k room = law_shortens room (IsExpr (below k)) (operand_at k room) 0 0
    (operand_law room k room 0 (omega arith))

pub expr_shortens : (room : ℕ) → Shortens (expr_at room)
expr_shortens room = law_shortens room (IsExpr ANY) (expr_at room) 0 0 (expr_law room room 0 (omega arith))

pub next_argument_shortens : (room : ℕ) → NextShortens (next_after Comma (expr_at room))
next_argument_shortens room = next_shortens room (IsAfter Comma (IsExpr ANY)) (next_after Comma (expr_at room)) 0
    (after_each_next room (IsExpr ANY) (expr_at room) 0 (expr_law room room 0 (omega arith)) Comma refl (λ o. o))

pub one_turn_less : (k : Level) (room : ℕ) (ts after rest : List Token) (op : Operator) (x : Expr) →
    op_at k (seen ts) ≡ Some (op, seen after) → operand_at k room (seen after) ≡ Ok (x, seen rest) →
    length rest < length ts
one_turn_less k room ts after rest op x found read =
    let less = subst (λ (o : Option (Operator × List Tok)). IfSome o (λ f. length f.1 < length (seen ts))) found
    (op_shortens k (seen ts)) in
    let more = subst (λ (r : Result (Expr × List Tok) Stop). OnValue r (λ x. length x.1 < length (seen after))) read
    (operand_shortens k room (seen after)) in
    omega (arith, less, more, length-map ts seen_token, length-map rest seen_token)
