use Rattle.std.proofs.Common.{◌≡◌, ℕ, ◌<◌, sym, ap, ◌∙◌, subst, true≢false}
use Rattle.std.proofs.lemmas.Option.{none-some}
use Rattle.runner.specs.Working.Opens.{OpenOf, IsRunning, moved, moved_by}
use Rattle.runner.specs.Working.Ties.{over_by}
use Rattle.runner.proofs.Along.{ran_on, ran_all, one_more_runs}
use Rattle.runner.proofs.Same.{moved_once_more, often_moved}
use Rattle.runner.proofs.states.Running.run.Goals as goal

pub returns-in-Some-clause-ran : goal.returns-in-Some-clause-ran
returns-in-Some-clause-ran c =
    let outcome = c.in-Some.outcome in
    let over : c.end.result ≡ over_by c.step.new.self outcome = c.end.ensures in
    let next : c.end.result ≡ moved c.loop-done.open =
    over ∙ ap (λ (s : OpenOf). over_by s outcome) c.in-Some.ensures.0 ∙ sym c.in-Some.ensures.1 in
    ran_on c.args.most c.loop-done.done c.args.self c.loop-done.open c.end.result c.loop-done-test.true
    (subst (λ (o : OpenOf). c.loop-done.open ≡ moved_by c.loop-done.done o) c.self.view_is c.loop-done.invariant.0)
    (subst (λ (o : OpenOf). (k : ℕ) → k < c.loop-done.done → IsRunning (moved_by k o)) c.self.view_is c.loop-done.invariant.1)
    c.loop-done.invariant.2
    next
    (λ runs. none-some outcome (sym runs.1 ∙ ap (λ (o : OpenOf). o.activation.outcome) over))

pub returns-then-not-is_running-clause-ran : goal.returns-then-not-is_running-clause-ran
returns-then-not-is_running-clause-ran c =
    ran_on c.args.most c.loop-done.done c.args.self c.loop-done.open c.step.new.self c.loop-done-test.true
    (subst (λ (o : OpenOf). c.loop-done.open ≡ moved_by c.loop-done.done o) c.self.view_is c.loop-done.invariant.0)
    (subst (λ (o : OpenOf). (k : ℕ) → k < c.loop-done.done → IsRunning (moved_by k o)) c.self.view_is c.loop-done.invariant.1)
    c.loop-done.invariant.2
    c.in_default.ensures.0
    (λ runs. true≢false (sym (c.if-not-is_running.ensures.1 runs.0)))

pub returns-in-Some-clause-same : goal.returns-in-Some-clause-same
returns-in-Some-clause-same c =
    let outcome = c.in-Some.outcome in
    let over : c.end.result ≡ over_by c.step.new.self outcome = c.end.ensures in
    let next : c.end.result ≡ moved c.loop-done.open =
    over ∙ ap (λ (s : OpenOf). over_by s outcome) c.in-Some.ensures.0 ∙ sym c.in-Some.ensures.1 in
    moved_once_more c.args.self c.loop-done.open c.end.result c.loop-done.done
    (subst (λ (o : OpenOf). c.loop-done.open ≡ moved_by c.loop-done.done o) c.self.view_is c.loop-done.invariant.0) next

pub returns-then-not-is_running-clause-same : goal.returns-then-not-is_running-clause-same
returns-then-not-is_running-clause-same c =
    moved_once_more c.args.self c.loop-done.open c.step.new.self c.loop-done.done
    (subst (λ (o : OpenOf). c.loop-done.open ≡ moved_by c.loop-done.done o) c.self.view_is c.loop-done.invariant.0)
    c.in_default.ensures.0

pub returns-clause-same : goal.returns-clause-same
returns-clause-same c =
    often_moved c.args.self c.loop-done.open c.loop-done.done
    (subst (λ (o : OpenOf). c.loop-done.open ≡ moved_by c.loop-done.done o) c.self.view_is c.loop-done.invariant.0)

pub returns-clause-ran : goal.returns-clause-ran
returns-clause-ran c =
    ran_all c.args.most c.loop-done.done c.args.self c.loop-done.open c.loop-done.auto.done-end c.loop-done-test.false
    (subst (λ (o : OpenOf). c.loop-done.open ≡ moved_by c.loop-done.done o) c.self.view_is c.loop-done.invariant.0)
    (subst (λ (o : OpenOf). (k : ℕ) → k < c.loop-done.done → IsRunning (moved_by k o)) c.self.view_is c.loop-done.invariant.1)

pub loop-done-preserved : goal.loop-done-preserved
loop-done-preserved c =
    one_more_runs c.loop-done.done c.self.inside.open c.loop-done.open c.step.new.self c.loop-done.invariant.0 c.loop-done.invariant.1 c.loop-done.invariant.2
    c.in_default.ensures.0 (c.is_running.ensures.0 c.if-not-is_running.false, c.in_default.ensures.1)
