use Rattle.std.proofs.Common.{◌≡◌, ◌<◌, ◌-◌, ℕ, suc, Option, Some, None, refl, sym, subst, ◌∙◌, arith}
use Rattle.interleavings.specs.Items.{until_stop}
use Rattle.interleavings.specs.Working.Found.{Takes}
use Rattle.interleavings.proofs.Many.{in_any_case, stops_in_turn, stops_behind}
use Rattle.interleavings.proofs.Stopping.{idle_here, none_for_call, call_ends, call_goes_on, first_step, then_steps}
use Rattle.interleavings.proofs.world.World.until_call_end.Goals as goal

pub returns-then-is_idle-clause-count : goal.returns-then-is_idle-clause-count
returns-then-is_idle-clause-count c =
    idle_here c.args.thread c.args.left c.args.self.now c.state.result c.is_idle.result c.state.ensures c.is_idle.ensures c.if-is_idle.true

pub returns-then-left-eq0-clause-count : goal.returns-then-left-eq0-clause-count
returns-then-left-eq0-clause-count c =
    none_for_call c.args.thread c.args.left c.args.self.now c.state.result c.is_idle.result c.state.ensures c.is_idle.ensures
    c.if-is_idle.false c.if-left-eq0.true

pub returns-then-is_end-clause-count : goal.returns-then-is_end-clause-count
returns-then-is_end-clause-count c =
    let some : 0 < c.args.left = omega (arith, c.if-left-eq0.false) in
    call_ends c.args.thread c.args.left c.args.self.now c.state.result c.is_idle.result c.state.ensures c.is_idle.ensures
    c.in_ok-event.event c.step.new.self c.in_ok-event.ensures.ok c.in_ok-event.ensures.plan c.if-is_idle.false
    some (sym c.is_end.ensures ∙ c.if-is_end.true)

pub returns-then-is_end-clause-world : goal.returns-then-is_end-clause-world
returns-then-is_end-clause-world c =
    first_step c.args.thread c.args.left c.args.self.now c.state.result c.is_idle.result c.state.ensures c.is_idle.ensures
    c.in_ok-event.event c.step.new.self c.in_ok-event.ensures.ok c.in_ok-event.ensures.plan c.if-is_idle.false

pub returns-in-None-clause-count : goal.returns-in-None-clause-count
returns-in-None-clause-count c =
    let some : 0 < c.args.left = omega (arith, c.if-left-eq0.false) in
    let next = c.step.new.self in
    let found : None ≡ until_stop next.plan c.args.thread (c.args.left - 1) next.world =
    sym c.in-None.is ∙ c.in_ok-until_stop.ensures.count in
    call_goes_on c.args.thread c.args.left c.args.self.now c.state.result c.is_idle.result c.state.ensures c.is_idle.ensures
    c.in_ok-event.event next c.in_ok-event.ensures.ok c.in_ok-event.ensures.plan c.if-is_idle.false
    some (sym c.is_end.ensures ∙ c.if-is_end.false) None found

pub returns-in-Some-clause-count : goal.returns-in-Some-clause-count
returns-in-Some-clause-count c =
    let some : 0 < c.args.left = omega (arith, c.if-left-eq0.false) in
    let next = c.step.new.self in
    let found : Some c.in-Some.more ≡ until_stop next.plan c.args.thread (c.args.left - 1) next.world =
    sym c.in-Some.is ∙ c.in_ok-until_stop.ensures.count in
    call_goes_on c.args.thread c.args.left c.args.self.now c.state.result c.is_idle.result c.state.ensures c.is_idle.ensures
    c.in_ok-event.event next c.in_ok-event.ensures.ok c.in_ok-event.ensures.plan c.if-is_idle.false
    some (sym c.is_end.ensures ∙ c.if-is_end.false) (Some c.in-Some.more) found

pub returns-in-Some-clause-world : goal.returns-in-Some-clause-world
returns-in-Some-clause-world c =
    let next = c.step.new.self in
    then_steps c.args.thread c.args.left c.args.self.now c.state.result c.is_idle.result c.state.ensures c.is_idle.ensures
    c.in_ok-event.event next c.in_ok-event.ensures.ok c.in_ok-event.ensures.plan c.if-is_idle.false c.in-Some.more c.until_stop.new.self
    (subst (λ (count : Option ℕ). Takes c.args.thread count next c.until_stop.new.self) c.in-Some.is c.in_ok-until_stop.ensures.world)

pub returns-in_err-event-clause-err : goal.returns-in_err-event-clause-err
returns-in_err-event-clause-err c =
    in_any_case c.from_residual.result (
      1,
      stops_in_turn c.args.self.now c.args.self.now c.step.new.self 1 1 c.args.thread (omega arith) (omega arith) refl
          c.in_err-event.ensures.err c.in_err-event.ensures.begins,
    )

pub returns-in_err-until_stop-clause-err : goal.returns-in_err-until_stop-clause-err
returns-in_err-until_stop-clause-err c =
    let next = c.step.new.self in
    let stops = c.in_err-until_stop.ensures.err in
    let first = first_step c.args.thread c.args.left c.args.self.now c.state.result c.is_idle.result c.state.ensures c.is_idle.ensures
    c.in_ok-event.event next c.in_ok-event.ensures.ok c.in_ok-event.ensures.plan c.if-is_idle.false in
    in_any_case c.from_residual-in_err-until_stop.result
    (suc stops.0, stops_behind c.args.self.now next c.until_stop.new.self c.args.thread stops.0 first stops.1)
