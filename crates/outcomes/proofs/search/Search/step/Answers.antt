use Rattle.std.proofs.Common.{◌≡◌, ◌∙◌, ℕ, List, Option, Some, get_or, slice_set, ap, sym, subst, arith, length, ◌⊎◌, Vec, Global}
use Rattle.std.proofs.lemmas.Grind.{get_or_default_zero}
use Rattle.core_lang.specs.declared.value.Outcome.{Outcome}
use Rattle.core_lang.specs.declared.value.Value.{Value}
use Rattle.core_lang.specs.Serial.{Invocation, invocation, run_call}
use Rattle.core_lang.specs.Whole.{Beyond_turns}
use Rattle.meaning.specs.Working.Undo.{undone}
use Rattle.outcomes.specs.declared.search.Search.{Search}
use Rattle.outcomes.specs.declared.state.State.{State}
use Rattle.outcomes.specs.Orders.{call_number, one_more}
use Rattle.outcomes.specs.Ends.{Left, answered}
use Rattle.outcomes.specs.Working.Changes.{applied}
use Rattle.outcomes.specs.Working.States.{left_with}
use Rattle.outcomes.specs.Working.Searching.{IsFound, IsAdded}
use Rattle.outcomes.specs.Working.Steps.{IsOver, state_in}
use Rattle.outcomes.proofs.ChangeLemmas.{length-undone, are_changes, cells_from}
use Rattle.outcomes.proofs.Drawn.{more_calls}
use Rattle.outcomes.proofs.Going.{goes_step, many_at_step}
use Rattle.outcomes.proofs.search.Search.step.Goals as goal

pub returns-in_default-2-clause-steps : goal.returns-in_default-2-clause-steps
returns-in_default-2-clause-steps c =
    let there = rw c.deref.ensures.value at c.in-Some.ensures in (
      c.requires.from.first,
      record {
        done = c.args.from.now.done.items;
        left = (state_in c.args.self.now c.args.from.now).left;
        call = invocation c.in-Some.call.now;
        leads = c.requires.from.leads;
        next = there.next;
        beyond =
            subst (λ (h : List Value). run_call c.args.self.now.program.now c.args.self.now.turns (invocation c.in-Some.call.now) h ≡ Beyond_turns)
            c.requires.there (rw c.in_default-2.is at c.in_ok-end.ensures);
      },
    )

pub call_number-number-requires-clause-step : goal.call_number-number-requires-clause-step
call_number-number-requires-clause-step c =
    let there = rw c.deref.ensures.value at c.in-Some.ensures in
    let xs = c.args.from.now.done.items in
    let same = get_or_default_zero xs c.args.thread c.index.result.now (omega (arith, c.requires.thread, c.requires.from.threads)) in
    let more = more_calls c.args.self.now.program.now xs c.args.thread (invocation c.in-Some.call.now) there.next in
    omega (arith, c.index.ensures, same, more)

-- the call from the state
over_from : (search : Search) (from : State) (call : Invocation) (cells heap : List Value) (outcome : Outcome) →
    cells ≡ (state_in search from).left.cells → IsOver search.program.now search.turns call cells heap outcome →
    IsOver search.program.now search.turns call (state_in search from).left.cells heap outcome
over_from search from call cells heap outcome there over =
    subst (λ (h : List Value). IsOver search.program.now search.turns call h heap outcome) there over

pub returns-then-not-has_room-clause-steps : goal.returns-then-not-has_room-clause-steps
returns-then-not-has_room-clause-steps c =
    let search = c.args.self.now in
    let there = rw c.deref.ensures.value at c.in-Some.ensures in
    let over = rw c.in-Some-2.is at c.in_ok-end.ensures in
    let many = rw c.if-not-has_room.true at c.has_room.ensures.few in
    many_at_step search c.args.work.now c.run.new.heap c.args.from.now c.args.thread (invocation c.in-Some.call.now) c.in-Some-2.end.outcome
    c.requires.work c.requires.from there.next
    (over_from search c.args.from.now (invocation c.in-Some.call.now) c.args.work.now.heap c.run.new.heap c.in-Some-2.end.outcome c.requires.there over.0)
    (rw c.orders.ensures at many)

-- the heap has as many cells as before any call
as_many : (first then : List (ℕ × Value)) (cells before opening opened : List Value) → undone then cells ≡ before → undone first before ≡ opened →
    opening ≡ opened → length cells ≡ length opening
as_many first then cells before opening opened back back' same =
    sym (length-undone then cells) ∙ ap (λ (l : List Value). length l) back ∙ sym (length-undone first before)
    ∙ ap (λ (l : List Value). length l) (back' ∙ sym same)

pub put-requires-clause-changes : goal.put-requires-clause-changes
put-requires-clause-changes c =
    let work = c.args.work.now in
    let end = c.in-Some-2.end in
    let over = rw c.in-Some-2.is at c.in_ok-end.ensures in
    let long = as_many work.overwritten.items end.overwritten.items c.run.new.heap work.heap work.next.opening _ over.1 c.requires.work.back.back c.requires.work.back.opening in
    are_changes work.next.opening c.run.new.heap c.in_ok-changes.changes.items long c.in_ok-changes.ensures

pub returns-clause-there : goal.returns-clause-there
returns-clause-there c =
    let over = rw c.in-Some-2.is at c.in_ok-end.ensures in
    c.in_ok-put.ensures.heap ∙ c.take_back.ensures ∙ over.1

pub returns-clause-steps : goal.returns-clause-steps
returns-clause-steps c =
    let search = c.args.self.now in
    let program = search.program.now in
    let work = c.args.work.now in
    let from = c.args.from.now in
    let end = c.in-Some-2.end in
    let outcome = end.outcome in
    let there = rw c.deref.ensures.value at c.in-Some.ensures in
    let over = rw c.in-Some-2.is at c.in_ok-end.ensures in
    let xs = from.done.items in
    let step : c.index.result.now ≡ get_or xs c.args.thread 0 =
    c.index.ensures ∙ get_or_default_zero xs c.args.thread c.index.result.now (omega (arith, c.requires.thread, c.requires.from.threads)) in
    let number : c.call_number-number.result ≡ call_number program c.args.thread (get_or xs c.args.thread 0) =
    c.call_number-number.ensures ∙ ap (call_number program c.args.thread) step in
    let answers : c.in_ok-answers.answers.items ≡ answered program xs c.args.thread outcome from.answers.items =
    c.in_ok-answers.ensures ∙ ap (λ (a : List (Option Outcome)). slice_set a c.call_number-number.result (Some outcome)) c.deref-3.ensures.value
    ∙ ap (λ (k : ℕ). slice_set from.answers.items k (Some outcome)) number in
    let long = as_many work.overwritten.items end.overwritten.items c.run.new.heap work.heap work.next.opening _ over.1 c.requires.work.back.back c.requires.work.back.opening in
    let cells = cells_from work.next.opening c.run.new.heap c.in_ok-changes.changes.items long c.in_ok-changes.ensures in
    let left : left_with (applied c.in_ok-changes.changes.items work.next.opening) c.in_ok-answers.answers.items
    ≡ left_with c.run.new.heap (answered program xs c.args.thread outcome from.answers.items) =
    ap (λ (l : List Value). left_with l c.in_ok-answers.answers.items) cells ∙ ap (left_with c.run.new.heap) answers in
    let puts = c.in_ok-put.ensures in
    let new = c.put.new.self in
    let room = rw c.if-not-has_room.false at c.has_room.ensures.few in
    goes_step search work new c.run.new.heap from c.args.thread (invocation c.in-Some.call.now) outcome
    c.requires.work c.requires.from there.next
    (over_from search from (invocation c.in-Some.call.now) work.heap c.run.new.heap outcome c.requires.there over.0)
    puts.depth
    (record {
      opening = puts.opening ∙ c.requires.work.back.opening;
      back =
          ap (λ (w : Vec (ℕ × Value) Global). undone w.items new.heap) puts.overwritten
          ∙ ap (undone work.overwritten.items) (puts.heap ∙ c.take_back.ensures ∙ over.1) ∙ c.requires.work.back.back;
    })
    (rw c.orders.ensures at room)
    (subst (λ (l : Left). IsFound work.next.states new.next.states work.trail new.trail (one_more xs c.args.thread) l from.orders
    ⊎ IsAdded work.next.states new.next.states work.trail new.trail (one_more xs c.args.thread) l from.orders from.first c.args.thread) left puts.there)
