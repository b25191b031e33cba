use Rattle.std.proofs.Common.{◌≤◌, ◌-◌, arith}
use Rattle.interleavings.proofs.Along.{turn_on}
use Rattle.interleavings.proofs.Many.{in_any_case, stops_in_turn}
use Rattle.interleavings.proofs.world.World.take.Goals as goal

pub loop-left-preserved : goal.loop-left-preserved
loop-left-preserved c =
    let left = c.loop-left.left in
    let more = c.run_on-left.result in
    let within = c.loop-left.invariant.0 in
    let fewer : left - 1 - more ≤ c.args.turn.count = omega (arith, within) in (
      fewer,
      turn_on c.args.self.now c.loop-left.self c.step.new.self c.run_on-left.new.self c.args.turn.count left more c.args.turn.thread
          c.in_ok-step.field-0 within c.loop-left-test.true c.run_on-left.ensures.within c.loop-left.invariant.1
          c.in_ok-step.ensures.ok c.in_ok-step.ensures.plan c.run_on-left.ensures.steps,
    )

pub returns-in_err-step-clause-err : goal.returns-in_err-step-clause-err
returns-in_err-step-clause-err c =
    in_any_case c.from_residual.result
    (stops_in_turn c.args.self.now c.loop-left.self c.step.new.self c.args.turn.count c.loop-left.left c.args.turn.thread
    c.loop-left.invariant.0 c.loop-left-test.true c.loop-left.invariant.1 c.in_err-step.ensures.err c.in_err-step.ensures.begins)
