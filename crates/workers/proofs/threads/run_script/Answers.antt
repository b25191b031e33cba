use Rattle.std.proofs.Common.{rules, ◌≡◌, ◌∙◌, sym, ap, subst, ℕ, List, map, Some, arith, take}
use Rattle.core_lang.specs.Serial.{Invocation}
use Rattle.workers.specs.Working.Within.{HasCalls, IsCall}
use Rattle.workers.specs.Answers.{call_in, script_at, as_call}
use Rattle.workers.specs.Seats.{SeatOf, Gains, reply}
use Rattle.core_lang.specs.Serial.{invocation}
use Rattle.workers.proofs.Scripts.{all_ran, one_more_ran}
use Rattle.workers.proofs.threads.run_script.Goals as goal

pub returns : goal.returns
returns g c =
    let plan = g.J.Naming.plan in
    let t = c.thread-thread.result in
    let has : HasCalls plan t c.in-Some.count = search rules in
    let over : c.loop-step.step ≡ c.in-Some.count = omega (arith, c.loop-step-test.false, c.loop-step.invariant.within) in
    let calls = map call_in c.loop-step.seat.answers in
    let ran : (script : List Invocation) → script_at plan t ≡ Some script → calls ≡ take c.in-Some.count script =
    subst (λ (n : ℕ). (script : List Invocation) → script_at plan t ≡ Some script → calls ≡ take n script) over c.loop-step.invariant.ran in
    all_ran plan t c.in-Some.count calls has ran ∙ ap (script_at plan) (sym c.loop-step.invariant.same)

pub loop-step-preserved : goal.loop-step-preserved
loop-step-preserved g c =
    let plan = g.J.Naming.plan in
    let t = c.thread-thread.result in
    let call = c.in-Some-call_at.call.now in
    let d = c.in_ok-call.field-0 in
    let gains : Gains c.loop-step.seat c.call.new.seat d.position (as_call call.section c.deref.result.now) d.outcome d.prints.items =
    c.in_ok-call.ensures.gained in
    let h = reply d.position gains.begun (as_call call.section c.deref.result.now) d.outcome d.prints.items in
    let gained = gains.is in
    let is : IsCall plan t c.loop-step.step call = search rules in
    let same : h.call ≡ invocation call = search rules in
    record {
      same = ap (λ (s : SeatOf). s.thread) gained ∙ c.loop-step.invariant.same;
      within = omega (arith, c.loop-step-test.true);
      ran = λ script there.
          ap (λ (s : SeatOf). map call_in s.answers) gained
          ∙ one_more_ran plan t c.loop-step.step script (invocation call) c.loop-step.seat.answers h there is.is same (c.loop-step.invariant.ran script there);
    }
