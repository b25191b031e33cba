use Rattle.std.proofs.Common.{arith}
use Rattle.std.proofs.lemmas.Grind.{common_steps}
use Rattle.types_bodies.proofs.StatementRows.{core_if_else_view}
use Rattle.types_bodies.proofs.stmt.choose_between.Goals as goal

pub returns : goal.returns
returns c = let h = core_if_else_view c.in-Some.condition c.in-Some.block c.in-Some.otherwise in grind (arith, common_steps, h)
