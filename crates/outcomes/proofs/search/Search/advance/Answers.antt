use Rattle.std.proofs.Common.{◌≡◌, ◌∙◌, ℕ, ◌+◌, List, Option, Some, get_or, slice_set, ap, arith}
use Rattle.core_lang.specs.declared.value.Outcome.{Outcome}
use Rattle.core_lang.specs.declared.value.Value.{Value}
use Rattle.meaning.specs.Working.Undo.{undone}
use Rattle.outcomes.proofs.ChangeLemmas.{undone-append}
use Rattle.outcomes.specs.Orders.{call_number}
use Rattle.outcomes.specs.Ends.{answered}
use Rattle.std.proofs.lemmas.Grind.{get_or_default_zero}
use Rattle.std.specs.Vec.{with_item}
use Rattle.core_lang.specs.Serial.{invocation}
use Rattle.outcomes.proofs.Leading.{next_within}
use Rattle.outcomes.proofs.Drawn.{walk_fits, more_calls, walks_further, goes_beyond}
use Rattle.outcomes.proofs.search.Search.advance.Goals as goal

pub next-requires-clause-threads : goal.next-requires-clause-threads
next-requires-clause-threads c = rw c.deref.ensures.value (walk_fits c.args.self.now c.args.walk.now c.requires.walk).0

pub index_mut-requires : goal.index_mut-requires
index_mut-requires c =
    let within = next_within c.args.self.now.program.now c.args.walk.now.done.items c.args.thread c.requires.left.0 c.requires.left.1 in
    let long = (walk_fits c.args.self.now c.args.walk.now c.requires.walk).0 in
    omega (arith, within, long)

pub overflow_add-index_mut : goal.overflow_add-index_mut
overflow_add-index_mut c =
    let there = rw (c.deref.ensures.value, c.unwrap-call.ensures) at c.next.ensures in
    let xs = c.args.walk.now.done.items in
    let within = next_within c.args.self.now.program.now xs c.args.thread c.requires.left.0 c.requires.left.1 in
    let long = (walk_fits c.args.self.now c.args.walk.now c.requires.walk).0 in
    let same = get_or_default_zero xs c.args.thread c.index_mut.result.now (omega (arith, within, long)) in
    omega (arith, there.few, c.index_mut.ensures.value, same)

pub returns-in_default : goal.returns-in_default
returns-in_default c =
    let there = rw (c.deref.ensures.value, c.unwrap-call.ensures) at c.next.ensures in
    goes_beyond c.args.self.now c.args.walk.now c.args.thread (invocation c.unwrap-call.result.now) c.requires.walk there.next
    (rw c.in_default.is at c.in_ok-end.ensures)

pub index-requires : goal.index-requires
index-requires c =
    let within = next_within c.args.self.now.program.now c.args.walk.now.done.items c.args.thread c.requires.left.0 c.requires.left.1 in
    let long = (walk_fits c.args.self.now c.args.walk.now c.requires.walk).0 in
    omega (arith, within, long)

pub call_number-number-requires-clause-step : goal.call_number-number-requires-clause-step
call_number-number-requires-clause-step c =
    let xs = c.args.walk.now.done.items in
    let within = next_within c.args.self.now.program.now xs c.args.thread c.requires.left.0 c.requires.left.1 in
    let long = (walk_fits c.args.self.now c.args.walk.now c.requires.walk).0 in
    let same = get_or_default_zero xs c.args.thread c.index.result.now (omega (arith, within, long)) in
    let more = more_calls c.args.self.now.program.now xs c.args.thread c.requires.left.0 c.requires.left.1 in
    omega (arith, c.index.ensures, same, more)

pub call_number-number-requires-clause-thread : goal.call_number-number-requires-clause-thread
call_number-number-requires-clause-thread c =
    next_within c.args.self.now.program.now c.args.walk.now.done.items c.args.thread c.requires.left.0 c.requires.left.1

pub returns : goal.returns
returns c =
    let program = c.args.self.now.program.now in
    let outcome = c.in-Some.end.outcome in
    let over = rw c.in-Some.is at c.in_ok-end.ensures in
    let there = rw (c.deref.ensures.value, c.unwrap-call.ensures) at c.next.ensures in
    let xs = c.args.walk.now.done.items in
    let within = next_within program xs c.args.thread c.requires.left.0 c.requires.left.1 in
    let long = (walk_fits c.args.self.now c.args.walk.now c.requires.walk).0 in
    let done : c.index_mut.result.now ≡ get_or xs c.args.thread 0 =
    c.index_mut.ensures.value ∙ get_or_default_zero xs c.args.thread c.index_mut.result.now (omega (arith, within, long)) in
    let step : c.index.result.now ≡ get_or xs c.args.thread 0 =
    c.index.ensures ∙ get_or_default_zero xs c.args.thread c.index.result.now (omega (arith, within, long)) in
    let number : c.call_number-number.result ≡ call_number program c.args.thread (get_or xs c.args.thread 0) =
    c.call_number-number.ensures ∙ ap (call_number program c.args.thread) step in
    let answers : c.in_ok-walk.field-0.items ≡ answered program xs c.args.thread outcome c.args.walk.now.answers.items =
    c.in_ok-walk.ensures ∙ ap (λ (a : List (Option Outcome)). slice_set a c.call_number-number.result (Some outcome)) c.deref-2.ensures.value
    ∙ ap (λ (k : ℕ). slice_set c.args.walk.now.answers.items k (Some outcome)) number in
    let heap : c.take_back.new.self ≡ c.run.new.heap =
    c.take_back.ensures ∙ ap (λ (w : List (ℕ × Value)). undone w c.run.new.heap) c.in_ok-memory.ensures.empty in
    walks_further c.args.self.now c.args.walk.now
    (record {
      heap = c.take_back.new.self;
      overwritten = c.keep_writes.new.before;
      done = with_item c.args.walk.now.done c.args.thread (c.index_mut.result.now + 1);
      answers = c.in_ok-walk.field-0;
      order = c.push.new.self;
    })
    c.args.thread (invocation c.unwrap-call.result.now) c.run.new.heap outcome c.requires.walk there.next
    over.0 heap
    (ap (undone c.keep_writes.new.before.items) heap ∙ ap (λ (w : List (ℕ × Value)). undone w c.run.new.heap) c.in_ok-memory.ensures.kept
    ∙ undone-append c.args.walk.now.overwritten.items c.in-Some.end.overwritten.items c.run.new.heap
    ∙ ap (undone c.args.walk.now.overwritten.items) over.1 ∙ c.requires.walk.back)
    (ap (λ (k : ℕ). slice_set xs c.args.thread (k + 1)) done) answers c.in_ok-push.ensures.items
