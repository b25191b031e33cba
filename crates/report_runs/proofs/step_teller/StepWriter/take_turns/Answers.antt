use Rattle.std.proofs.Common.{arith}
use Rattle.report_runs.proofs.TraceSteps.{tells_turn}
use Rattle.report_runs.proofs.step_teller.StepWriter.take_turns.Goals as goal

pub loop-turn-preserved : goal.loop-turn-preserved
loop-turn-preserved c =
    tells_turn c.args.self.now c.args.world.now c.loop-turn.world c.take.new.world c.args.turns.now c.loop-turn.turn-index
    (record { thread = 0; count = 0 }) c.args.out.now c.loop-turn.out c.take.new.out c.requires (omega arith) c.loop-turn.invariant
    c.in_ok-take.ensures
