use Rattle.std.proofs.Common.{arith}
use Rattle.interleavings.proofs.Many.{in_any_case, one_turn_more, stops_in_turns}
use Rattle.interleavings.proofs.world.World.take_turns.Goals as goal

pub returns-in_err-take-clause-err : goal.returns-in_err-take-clause-err
returns-in_err-take-clause-err c =
    in_any_case c.from_residual.result
    (stops_in_turns c.args.self.now c.loop-turn.self c.take.new.self c.args.turns.now c.loop-turn.turn-index
    (record { thread = 0; count = 0 }) (omega arith) c.loop-turn.invariant c.in_err-take.ensures.err)

pub loop-turn-preserved : goal.loop-turn-preserved
loop-turn-preserved c =
    one_turn_more c.args.self.now c.args.turns.now c.loop-turn.turn-index (record { thread = 0; count = 0 }) c.loop-turn.self c.take.new.self
    (omega arith) c.loop-turn.invariant c.in_ok-take.ensures.ok
