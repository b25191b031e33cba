use Rattle.std.proofs.Common.{◌≡◌, ◌∙◌, ℕ, ◌+◌, ◌-◌, List, [], ◌++◌, length, map, inl, inr, ap, sym, subst, refl, arith, rules}
use Rattle.core_lang.specs.WellFormed.{calls_together}
use Rattle.outcomes.specs.Working.Steps.{start_of, made_from_all}
use Rattle.outcomes.specs.declared.search.Work.{Work}
use Rattle.outcomes.specs.Orders.{none_done}
use Rattle.outcomes.specs.Working.States.{Layered}
use Rattle.core_lang.specs.declared.value.Value.{Value}
use Rattle.core_lang.specs.Serial.{opening_heap}
use Rattle.meaning.specs.Working.Undo.{undone}
use Rattle.outcomes.specs.Working.Searching.{AreGood, order_at, weight}
use Rattle.outcomes.proofs.Whole.{good_at_first, sums_at_first, sums_of_more, good_of_more, stops_after, too_many}
use Rattle.outcomes.proofs.Whole.{are_all_ends}
use Rattle.outcomes.proofs.Configurations.{configuration_of, no_places, places_more, has_places, before_more}
use Rattle.outcomes.proofs.search.Search.all.Goals as goal

pub loop-depth-init : goal.loop-depth-init
loop-depth-init c =
    record {
      back = record {
        opening = search rules;
        back = ap (λ (w : List (ℕ × Value)). undone w c.in_ok-heap.heap) c.new.ensures.items ∙ c.in_ok-heap.ensures.opens;
      };
      empty = c.new-2.ensures.states;
      opening = search rules;
      layer = good_at_first c.args.self.now c.new-3.result c.in_ok-layer.layer.states c.requires.checked c.new-3.ensures c.in_ok-layer.ensures.states;
      sums = sums_at_first c.args.self.now c.in_ok-layer.layer.states c.in_ok-layer.ensures.states;
      few = inr refl;
      before = (
        [],
        no_places c.args.self.now.program.now c.args.self.now.turns c.args.self.now.asked.now.answers,
        (let one : length c.in_ok-layer.layer.states ≡ 1 = ap length c.in_ok-layer.ensures.states in let root : length c.new-3.result ≡ 1 = ap length c.new-3.ensures in omega arith),
      );
    }

pub returns-in-Some-Beyond : goal.returns-in-Some-Beyond
returns-in-Some-Beyond c =
    let there = rw (c.in-Some-Beyond.is, c.in-Some-Beyond.field-0-is) at c.in_ok-expand_all.ensures in
    rw c.in_ok-order-in-Some-Beyond.ensures
    (stops_after c.whole_within_some_turns.ensures.over c.args.self.now.program.now c.args.self.now.turns c.args.self.now.asked.now.answers
    (order_at c.expand_all.new.work.trail c.in-Some-Beyond.first) c.in-Some-Beyond.thread there.1)

pub returns-in-Some-TooMany : goal.returns-in-Some-TooMany
returns-in-Some-TooMany c =
    let many = rw (c.in-Some-TooMany.is, c.in-Some-TooMany.field-0-is) at c.in_ok-expand_all.ensures in
    let old : Work = record c.loop-depth.work { depth = c.loop-depth.depth } in
    too_many c.args.self.now old c.loop-depth.layer.states c.calls-calls.result c.loop-depth.depth many c.loop-depth.invariant.empty refl c.loop-depth-test.true
    c.calls-calls.ensures
    (λ f. c.loop-depth.invariant.sums f (c.calls-calls.result - c.loop-depth.depth)
    ∙ ap (λ (k : ℕ). weight c.args.self.now.program.now c.args.self.now.turns f k (none_done c.args.self.now.program.now) (start_of c.args.self.now))
    (omega (arith, c.loop-depth-test.true)))

pub loop-depth-preserved : goal.loop-depth-preserved
loop-depth-preserved c =
    let goes = rw c.in-None.is at c.in_ok-expand_all.ensures in
    let old : Work = record c.loop-depth.work { depth = c.loop-depth.depth } in
    record {
      back = record {
        opening = ap (λ (l : Layered). l.opening) c.replace-layer.ensures.after ∙ (let same : c.new-in-loop-depth.result.opening ≡ opening_heap c.args.self.now.program.now = search rules in same);
        back = goes.work.back.back;
      };
      empty = ap (λ (l : Layered). l.states) c.replace-layer.ensures.after ∙ c.new-in-loop-depth.ensures.states;
      opening = rw c.replace-layer.ensures.value goes.work.back.opening;
      layer = rw c.replace-layer.ensures.value
          (good_of_more c.args.self.now old c.expand_all.new.work (made_from_all c.args.self.now c.loop-depth.layer.states) c.loop-depth.depth goes refl);
      sums = λ f left. rw c.replace-layer.ensures.value
          (sums_of_more c.args.self.now old c.expand_all.new.work c.loop-depth.layer.states c.loop-depth.depth goes c.loop-depth.invariant.empty
          c.loop-depth.invariant.sums f left);
      few = inl (rw c.replace-layer.ensures.value goes.work.few);
      before = rw c.replace-layer.ensures.value (
        c.loop-depth.invariant.before.0 ++ map configuration_of c.loop-depth.layer.states,
        places_more c.settled_are_serial.ensures c.at_most_one_serial.ensures c.args.self.now.program.now c.args.self.now.turns c.args.self.now.asked.now.answers c.loop-depth.depth
            c.loop-depth.work.trail c.loop-depth.layer.states c.loop-depth.invariant.before.0 c.loop-depth.invariant.layer
            (λ f. c.loop-depth.invariant.sums f 0 ∙ ap (λ (k : ℕ). weight c.args.self.now.program.now c.args.self.now.turns f k (none_done c.args.self.now.program.now) (start_of c.args.self.now)) (omega arith))
            c.loop-depth.invariant.before.1,
        before_more c.args.self.now old c.expand_all.new.work (made_from_all c.args.self.now c.loop-depth.layer.states)
            c.loop-depth.invariant.before.0 c.loop-depth.layer.states goes c.loop-depth.invariant.empty
            c.loop-depth.invariant.before.2,
      );
    }

pub ends_of-requires-clause-work : goal.ends_of-requires-clause-work
ends_of-requires-clause-work c = c.loop-depth.invariant.back

pub ends_of-requires-clause-opening : goal.ends_of-requires-clause-opening
ends_of-requires-clause-opening c = c.loop-depth.invariant.opening

pub ends_of-requires-clause-layer : goal.ends_of-requires-clause-layer
ends_of-requires-clause-layer c =
    let at_end : c.loop-depth.depth ≡ c.calls-calls.result = omega arith in
    subst (λ (k : ℕ). AreGood c.args.self.now.program.now c.args.self.now.turns k (start_of c.args.self.now) c.loop-depth.work.trail c.loop-depth.layer.states)
    (at_end ∙ c.calls-calls.ensures) c.loop-depth.invariant.layer

pub returns : goal.returns
returns c =
    let program = c.args.self.now.program.now in
    let n = c.args.self.now.turns in
    let start = start_of c.args.self.now in
    let at_end : c.loop-depth.depth ≡ c.calls-calls.result = omega arith in
    let here : c.loop-depth.depth + 0 ≡ calls_together program.threads.items = (let all : c.calls-calls.result ≡ calls_together program.threads.items = c.calls-calls.ensures in omega arith) in (
      are_all_ends c.whole_within_some_turns.ensures.over c.settled_are_serial.ensures c.at_most_one_serial.ensures c.args.self.now
          c.loop-depth.work.trail c.loop-depth.layer.states _
          (λ f. c.loop-depth.invariant.sums f 0 ∙ ap (λ (k : ℕ). weight program n f k (none_done program) start) here)
          (elim c.loop-depth.invariant.few [ inl few ↦ inl few | inr none ↦ inr (sym (at_end ∙ c.calls-calls.ensures) ∙ none) ])
          c.in_ok-ends.ensures.told,
      has_places c.whole_within_some_turns.ensures.over c.settled_are_serial.ensures c.at_most_one_serial.ensures program n c.args.self.now.asked.now.answers c.loop-depth.depth
          c.len-configurations.result c.loop-depth.work.trail c.loop-depth.layer.states c.loop-depth.invariant.before.0 (at_end ∙ c.calls-calls.ensures)
          c.loop-depth.invariant.layer
          (λ f. c.loop-depth.invariant.sums f 0 ∙ ap (λ (k : ℕ). weight program n f k (none_done program) start) (omega arith))
          c.loop-depth.invariant.before.1 (c.loop-depth.invariant.before.2 ∙ sym (ap (λ (t : List (List ℕ)). length t) c.in_ok-ends.ensures.trail) ∙ sym c.len-configurations.ensures),
    )
