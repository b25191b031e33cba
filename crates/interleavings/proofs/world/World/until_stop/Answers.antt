use Rattle.std.proofs.Common.{◌≡◌, ◌<◌, ◌+◌, ◌-◌, replicate, sym, ap, ◌∙◌, arith}
use Rattle.interleavings.specs.Threads.{with_steps}
use Rattle.interleavings.proofs.Many.{in_any_case, stops_in_turn}
use Rattle.interleavings.proofs.Stopping.{stops_here, too_many, after_one, ends_here, goes_on}
use Rattle.interleavings.proofs.world.World.until_stop.Goals as goal

pub returns-then-is_stopped-clause-count : goal.returns-then-is_stopped-clause-count
returns-then-is_stopped-clause-count c =
    stops_here c.args.thread c.args.left c.steps.count c.args.self.now c.steps.self c.steps.invariant
    c.state.result c.is_stopped.result c.state.ensures c.is_stopped.ensures c.if-is_stopped.true

pub returns-then-count-left-clause-count : goal.returns-then-count-left-clause-count
returns-then-count-left-clause-count c =
    too_many c.args.thread c.args.left c.steps.count c.args.self.now c.steps.self c.steps.invariant
    c.state.result c.is_stopped.result c.state.ensures c.is_stopped.ensures c.if-is_stopped.false c.if-count-left.true

pub returns-then-is_end-clause-count : goal.returns-then-is_end-clause-count
returns-then-is_end-clause-count c =
    let some : c.steps.count < c.args.left = omega (arith, c.steps.invariant.within, c.if-count-left.false) in
    ends_here c.args.thread c.args.left c.steps.count c.args.self.now c.steps.self c.steps.invariant
    c.state.result c.is_stopped.result c.state.ensures c.is_stopped.ensures c.in_ok-event.event c.step.new.self
    c.in_ok-event.ensures.ok c.in_ok-event.ensures.plan c.if-is_stopped.false some (sym c.is_end.ensures ∙ c.if-is_end.true)

pub returns-then-is_end-clause-world : goal.returns-then-is_end-clause-world
returns-then-is_end-clause-world c =
    let some : c.steps.count < c.args.left = omega (arith, c.steps.invariant.within, c.if-count-left.false) in
    after_one c.args.thread c.args.left c.steps.count c.args.self.now c.steps.self c.steps.invariant
    c.state.result c.is_stopped.result c.state.ensures c.is_stopped.ensures c.in_ok-event.event c.step.new.self
    c.in_ok-event.ensures.ok c.in_ok-event.ensures.plan c.if-is_stopped.false some

pub steps-preserved : goal.steps-preserved
steps-preserved c =
    let some : c.steps.count < c.args.left = omega (arith, c.steps.invariant.within, c.if-count-left.false) in
    goes_on c.args.thread c.args.left c.steps.count c.args.self.now c.steps.self c.steps.invariant
    c.state.result c.is_stopped.result c.state.ensures c.is_stopped.ensures c.in_ok-event.event c.step.new.self
    c.in_ok-event.ensures.ok c.in_ok-event.ensures.plan c.if-is_stopped.false some (sym c.is_end.ensures ∙ c.if-is_end.false)
    c.run_on-count.result c.run_on-count.new.self c.run_on-count.ensures.within c.run_on-count.ensures.steps c.run_on-count.ensures.moves

pub returns-in_err-event-clause-err : goal.returns-in_err-event-clause-err
returns-in_err-event-clause-err c =
    let count = c.steps.count in
    let same : count ≡ count + 1 - 1 = omega arith in
    in_any_case c.from_residual.result (
      count + 1,
      stops_in_turn c.args.self.now c.steps.self c.step.new.self (count + 1) 1 c.args.thread (omega arith) (omega arith)
          (c.steps.invariant.so_far ∙ ap (λ n. with_steps c.args.self.now (replicate n c.args.thread)) same) c.in_err-event.ensures.err c.in_err-event.ensures.begins,
    )
