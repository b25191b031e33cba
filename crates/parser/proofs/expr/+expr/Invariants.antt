use Rattle.std.proofs.Common.{◌≡◌, ◌+◌, ◌*◌, length}
use Rattle.source.specs.Tokens.{seen}
use Rattle.syntax.specs.Grammar.{rank}
use Rattle.syntax.specs.Views.{link_of}
use Rattle.parser.specs.Working.Expressions.{operand_at, links_at, links_behind}
use Rattle.parser.specs.Theory.Many.{with_front}
use Rattle.parser.specs.Theory.Chains.{links_before}
use Rattle.parser.proofs.expr.+expr.Given as goal

abbrev pub decreases-chain : goal.decreases-chain
decreases-chain l = 40 * l.room + 4 * rank l.level + 4

abbrev pub decreases-closed : goal.decreases-closed
decreases-closed l = 40 * l.room + 29

abbrev pub decreases-links : goal.decreases-links
decreases-links l = 40 * l.room + 4 * rank l.level + 3

abbrev pub decreases-operand : goal.decreases-operand
decreases-operand l = 40 * l.room + 4 * rank l.level + 2

abbrev pub decreases-compared : goal.decreases-compared
decreases-compared l = 40 * l.room + 17

abbrev pub decreases-unary : goal.decreases-unary
decreases-unary l = 40 * l.room + 5

abbrev pub decreases-prim : goal.decreases-prim
decreases-prim l = 40 * l.room + 4

abbrev pub decreases-place : goal.decreases-place
decreases-place l = 40 * l.room + 2

abbrev pub decreases-element : goal.decreases-element
decreases-element l = 40 * l.room + 1

abbrev pub decreases-parens : goal.decreases-parens
decreases-parens l = 40 * l.room + 1

abbrev pub invariant-links-loop-op : goal.invariant-links-loop-op
invariant-links-loop-op l = with_front (links_before l.links.items) (links_at (operand_at l.level l.room) l.level (seen l.rest)) ≡ links_behind (operand_at l.level l.room) l.level (link_of l.fn.first) (seen l.tokens)

abbrev pub decreases-links-loop-op : goal.decreases-links-loop-op
decreases-links-loop-op l = length l.rest
