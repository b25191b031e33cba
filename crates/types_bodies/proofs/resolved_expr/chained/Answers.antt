use Rattle.std.proofs.Common.{arith}
use Rattle.std.proofs.lemmas.Grind.{common_steps}
use Rattle.types_bodies.proofs.CoreRows.{core_chain_view}
use Rattle.types_bodies.proofs.resolved_expr.chained.Goals as goal

pub returns : goal.returns
returns c = rw (core_chain_view c.in_ok-first.first c.in-Some.rest, c.in_ok-first.ensures.ok) (grind (arith, common_steps))
