use Rattle.std.proofs.Common.{arith}
use Rattle.std.proofs.lemmas.Grind.{common_steps}
use Rattle.types_bodies.proofs.StatementRows.{core_while_view}
use Rattle.types_bodies.proofs.stmt.repeat.Goals as goal

pub returns : goal.returns
returns c = let h = core_while_view c.in-Some.condition c.in-Some.body in grind (arith, common_steps, h)
