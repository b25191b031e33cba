use Rattle.interleavings.proofs.Many.{in_any_case}
use Rattle.interleavings.proofs.world.World.steps_until.Goals as goal

pub returns-in_err-take-in-Count-clause-err : goal.returns-in_err-take-in-Count-clause-err
returns-in_err-take-in-Count-clause-err c =
    in_any_case c.from_residual.result (c.in-Count.count, c.in_err-take-in-Count.ensures.err)
