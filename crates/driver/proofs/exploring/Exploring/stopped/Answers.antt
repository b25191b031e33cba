use Rattle.std.proofs.Common.{◌≡◌, ◌∙◌, ℕ, List, map, get_or, ap, sym, subst, refl}
use Rattle.std.specs.Prelude.{string_bytes}
use Rattle.core_lang.specs.declared.typed.Typed.{Typed}
use Rattle.core_lang.specs.Serial.{Scheduled}
use Rattle.outcomes.specs.Orders.{none_done}
use Rattle.report.specs.{entry_of, unsettled_of}
use Rattle.rope.specs.Working.Ropes.{rope_text}
use Rattle.driver.specs.Outcomes.{scheduled_in}
use Rattle.driver.specs.Working.Running.{scheduled_of, progress_of, CanMake, IsRan}
use Rattle.driver.specs.Serial.{entries}
use Rattle.driver.proofs.OrderLemmas.{can_make_order, stops_inside, stops_behind}
use Rattle.driver.proofs.exploring.Exploring.stopped.Goals as goal
use Rattle.driver.proofs.exploring.Exploring.stopped.Goals.{in-Some, in-None}

pub run_calls-requires-clause-calls : goal.run_calls-requires-clause-calls
run_calls-requires-clause-calls c =
    let program = c.args.self.now.prepared.now.program.now in
    let calls : map scheduled_of c.in_ok-made.made.calls.items ≡ scheduled_in program c.args.order.now =
    subst (λ (p : Typed). map scheduled_of c.in_ok-made.made.calls.items ≡ scheduled_in p c.args.order.now) c.program-program.ensures c.in_ok-made.ensures.calls in
    rw c.deref.ensures.value
    (subst (CanMake program) (sym calls) (can_make_order program c.requires.checked (none_done program) c.args.order.now))

pub returns : goal.returns
returns c =
    let program = c.args.self.now.prepared.now.program.now in
    let turns = c.args.self.now.looking.turns in
    let order = c.args.order.now in
    let calls : map scheduled_of c.in_ok-made.made.calls.items ≡ scheduled_in program order =
    subst (λ (p : Typed). map scheduled_of c.in_ok-made.made.calls.items ≡ scheduled_in p order) c.program-program.ensures c.in_ok-made.ensures.calls in
    let all : map scheduled_of c.deref.result.now ≡ scheduled_in program order = rw c.deref.ensures.value calls in
    let ran = subst (λ (ss : List Scheduled). IsRan turns program ss c.in_ok-ran.ran) all c.in_ok-ran.ensures.ran in
    let es = map entry_of c.deref-2.result.now in
    let records : es ≡ entries (scheduled_in program order) (progress_of turns program (scheduled_in program order)).ends =
    rw c.deref-2.ensures.value ran.records in
    elim c.match-ran.branch [
      | in-Some w ↦ stops_inside c.settled_are_serial.ensures turns program order w.in-Some.place.0 w.in-Some.place.1 es _ _ _ c.requires.stops.made
          (rw w.in-Some.is at ran.stop) records c.written.ensures.ended
          (c.written.ensures.written ∙ ap rope_text c.of.ensures ∙ subst
          (λ (p : Typed). string_bytes c.in_ok-out.out ≡ unsettled_of p es w.in-Some.place.0 w.in-Some.place.1)
          c.program-program.ensures (rw w.thread-is at c.in_ok-out.ensures)) c.written.ensures.told
      | in-None w ↦ (
          let done = rw c.program-program.ensures at c.in_ok-made.ensures.done in
          let text = subst (λ (p : Typed). string_bytes c.in_ok-out.out ≡ unsettled_of p es c.args.thread w.done_of.result)
          c.program-program.ensures (rw w.thread-is at c.in_ok-out.ensures) in
          stops_behind c.settled_are_serial.ensures c.at_most_one_serial.ensures turns program order c.args.thread es _ _ _ c.requires.stops
          (rw w.in-None.is at ran.stop) records c.written.ensures.ended
          (c.written.ensures.written ∙ ap rope_text c.of.ensures ∙ text ∙ ap
          (λ (k : ℕ). unsettled_of program es c.args.thread k)
          (w.done_of.ensures ∙ ap (λ (ds : List ℕ). get_or ds c.args.thread 0) done))
          c.written.ensures.told)
    ]
