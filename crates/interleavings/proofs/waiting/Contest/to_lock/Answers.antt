use Rattle.std.proofs.Common.{◌∙◌, refl, sym}
use Rattle.interleavings.specs.declared.waiting.Contest.{Contest}
use Rattle.interleavings.proofs.Contests.{one_taken, reached, on_way, too_far}
use Rattle.interleavings.proofs.waiting.Contest.to_lock.Goals as goal

pub returns-then-not-is_on_way-clause-count : goal.returns-then-not-is_on_way-clause-count
returns-then-not-is_on_way-clause-count c =
    let next : Contest = record { world = c.step.new.self; left = c.steps.self.left; stage = c.steps.self.stage } in
    reached c.args.thread c.steps.count c.args.self.now c.steps.self next c.in_ok-event.event c.steps.invariant
    c.steps-test.true c.in_ok-event.ensures.ok c.in_ok-event.ensures.plan refl refl
    (sym c.is_on_way.ensures ∙ c.if-not-is_on_way.true)

pub returns-then-not-is_on_way-clause-takes : goal.returns-then-not-is_on_way-clause-takes
returns-then-not-is_on_way-clause-takes c =
    let next : Contest = record { world = c.step.new.self; left = c.steps.self.left; stage = c.steps.self.stage } in
    one_taken c.args.thread c.steps.count c.args.self.now c.steps.self next c.in_ok-event.event c.steps.invariant
    c.steps-test.true c.in_ok-event.ensures.ok c.in_ok-event.ensures.plan refl refl

pub steps-preserved : goal.steps-preserved
steps-preserved c =
    let next : Contest = record { world = c.step.new.self; left = c.steps.self.left; stage = c.steps.self.stage } in
    on_way c.args.thread c.steps.count c.args.self.now c.steps.self next c.in_ok-event.event c.steps.invariant
    c.steps-test.true c.in_ok-event.ensures.ok c.in_ok-event.ensures.plan refl refl
    (sym c.is_on_way.ensures ∙ c.if-not-is_on_way.false)

pub returns-clause-count : goal.returns-clause-count
returns-clause-count c =
    too_far c.args.thread c.steps.count c.args.self.now c.steps.self c.steps.invariant
    c.steps-test.false
