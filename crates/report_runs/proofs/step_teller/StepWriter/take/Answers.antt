use Rattle.report_runs.proofs.TraceSteps.{tells_again}
use Rattle.report_runs.proofs.step_teller.StepWriter.take.Goals as goal

pub loop-preserved : goal.loop-preserved
loop-preserved c =
    tells_again c.args.self.now c.args.world.now c.loop.world c.step.new.world c.loop.counter c.args.turn.thread c.args.out.now c.loop.out
    c.step.new.out c.requires c.loop.invariant c.in_ok-step.ensures
