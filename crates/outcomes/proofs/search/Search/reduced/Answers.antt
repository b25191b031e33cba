use Rattle.std.proofs.Common.{◌≡◌, ◌∙◌, ℕ, ◌+◌, ◌-◌, ◌<◌, suc, List, [], ◌++◌, length, map, ap, sym, subst, refl, arith, rules}
use Rattle.core_lang.specs.WellFormed.{calls_together}
use Rattle.outcomes.specs.declared.search.Work.{Work}
use Rattle.outcomes.specs.Working.Searching.{AreGood, order_at}
use Rattle.outcomes.specs.Working.States.{Layered}
use Rattle.core_lang.specs.declared.value.Value.{Value}
use Rattle.core_lang.specs.Serial.{opening_heap}
use Rattle.meaning.specs.Working.Undo.{undone}
use Rattle.outcomes.specs.Working.Steps.{start_of}
use Rattle.outcomes.specs.Working.Reducing.{reduced_from_all, Covers}
use Rattle.outcomes.proofs.Whole.{good_at_first, good_of_more, stops_after}
use Rattle.outcomes.proofs.Configurations.{configuration_of, none_led, led_more, has_some_places, before_more}
use Rattle.outcomes.proofs.Covering.{covers_first, covers_more, are_ends_of_all}
use Rattle.outcomes.proofs.Remaining.{counts_first, counts_more, leaves_more}
use Rattle.outcomes.proofs.search.Search.reduced.Goals as goal

none_off : (k : ℕ) → k ≡ k - 0
none_off k = omega arith

pub loop-depth-init : goal.loop-depth-init
loop-depth-init c =
    record {
      back = record {
        opening = search rules;
        back = ap (λ (w : List (ℕ × Value)). undone w c.in_ok-heap.heap) c.new.ensures.items ∙ c.in_ok-heap.ensures.opens;
      };
      empty = c.new-2.ensures.states;
      opening = search rules;
      layer = good_at_first c.args.self.now c.new-3.result c.in_ok-layer.layer.states c.requires.search.checked c.new-3.ensures c.in_ok-layer.ensures.states;
      counts = counts_first c.args.self.now c.args.groups.now c.in_ok-layer.layer.states c.in_ok-layer.ensures.states;
      covers = subst (λ (left : ℕ). Covers c.args.self.now left c.in_ok-layer.layer.states) (none_off (calls_together c.args.self.now.program.now.threads.items))
          (covers_first c.args.self.now c.in_ok-layer.layer.states c.in_ok-layer.ensures.states);
      before = (
        [],
        none_led c.args.self.now.program.now c.args.self.now.turns c.args.self.now.asked.now.answers,
        (let one : length c.in_ok-layer.layer.states ≡ 1 = ap length c.in_ok-layer.ensures.states in let root : length c.new-3.result ≡ 1 = ap length c.new-3.ensures in omega (arith, one, root)),
      );
    }

pub returns-in-Some-Beyond : goal.returns-in-Some-Beyond
returns-in-Some-Beyond c =
    let there = rw (c.in-Some-Beyond.is, c.in-Some-Beyond.field-0-is) at c.in_ok-expand_groups.ensures in
    rw c.in_ok-order-in-Some-Beyond.ensures
    (stops_after c.whole_within_some_turns.ensures.over c.args.self.now.program.now c.args.self.now.turns c.args.self.now.asked.now.answers
    (order_at c.expand_groups.new.work.trail c.in-Some-Beyond.first) c.in-Some-Beyond.thread there.1)

pub returns-in-Some-TooMany : goal.returns-in-Some-TooMany
returns-in-Some-TooMany c =
    let many = rw (c.in-Some-TooMany.is, c.in-Some-TooMany.field-0-is) at c.in_ok-expand_groups.ensures in
    let old : Work = record c.loop-depth.work { depth = c.loop-depth.depth } in
    leaves_more c.args.self.now c.args.groups.now old c.loop-depth.layer.states c.calls-calls.result c.loop-depth.depth many
    c.loop-depth.invariant.empty refl c.loop-depth-test.true c.calls-calls.ensures c.loop-depth.invariant.counts

one_off : (all calls depth : ℕ) → calls ≡ all → depth < calls → all - depth ≡ suc (all - (depth + 1))
one_off all calls depth is below = omega (arith, is, below)

all_there : (all calls depth : ℕ) → calls ≡ all → depth < calls → depth + suc (all - (depth + 1)) ≡ all
all_there all calls depth is below = omega (arith, is, below)

pub loop-depth-preserved : goal.loop-depth-preserved
loop-depth-preserved c =
    let searched = c.args.self.now in
    let program = searched.program.now in
    let all = calls_together program.threads.items in
    let depth = c.loop-depth.depth in
    let goes = rw c.in-None.is at c.in_ok-expand_groups.ensures in
    let old : Work = record c.loop-depth.work { depth = depth } in
    let growth = reduced_from_all searched c.args.groups.now c.loop-depth.layer.states in
    record {
      back = record {
        opening = ap (λ (l : Layered). l.opening) c.replace-layer.ensures.after ∙ (let same : c.new-in-loop-depth.result.opening ≡ opening_heap c.args.self.now.program.now = search rules in same);
        back = goes.work.back.back;
      };
      empty = ap (λ (l : Layered). l.states) c.replace-layer.ensures.after ∙ c.new-in-loop-depth.ensures.states;
      opening = rw c.replace-layer.ensures.value goes.work.back.opening;
      layer = rw c.replace-layer.ensures.value (good_of_more searched old c.expand_groups.new.work growth depth goes refl);
      counts = rw c.replace-layer.ensures.value
          (counts_more searched c.args.groups.now old c.expand_groups.new.work c.loop-depth.layer.states depth goes c.loop-depth.invariant.empty c.loop-depth.invariant.counts);
      covers = rw c.replace-layer.ensures.value
          (covers_more searched c.args.groups.now old c.expand_groups.new.work c.loop-depth.work.trail c.loop-depth.layer.states depth (all - (depth + 1))
          c.requires.groups goes c.loop-depth.invariant.empty c.loop-depth.invariant.layer
          (all_there all c.calls-calls.result depth c.calls-calls.ensures c.loop-depth-test.true)
          (subst (λ (left : ℕ). Covers searched left c.loop-depth.layer.states) (one_off all c.calls-calls.result depth c.calls-calls.ensures c.loop-depth-test.true)
          c.loop-depth.invariant.covers));
      before = rw c.replace-layer.ensures.value (
        c.loop-depth.invariant.before.0 ++ map configuration_of c.loop-depth.layer.states,
        led_more program searched.turns searched.asked.now.answers depth c.loop-depth.work.trail c.loop-depth.layer.states c.loop-depth.invariant.before.0
            c.loop-depth.invariant.layer c.loop-depth.invariant.before.1,
        before_more searched old c.expand_groups.new.work growth c.loop-depth.invariant.before.0 c.loop-depth.layer.states goes c.loop-depth.invariant.empty
            c.loop-depth.invariant.before.2,
      );
    }

pub ends_of-requires-clause-work : goal.ends_of-requires-clause-work
ends_of-requires-clause-work c = c.loop-depth.invariant.back

pub ends_of-requires-clause-opening : goal.ends_of-requires-clause-opening
ends_of-requires-clause-opening c = c.loop-depth.invariant.opening

pub ends_of-requires-clause-layer : goal.ends_of-requires-clause-layer
ends_of-requires-clause-layer c =
    let at_end : c.loop-depth.depth ≡ c.calls-calls.result = omega arith in
    subst (λ (k : ℕ). AreGood c.args.self.now.program.now c.args.self.now.turns k (start_of c.args.self.now) c.loop-depth.work.trail c.loop-depth.layer.states)
    (at_end ∙ c.calls-calls.ensures) c.loop-depth.invariant.layer

none_there : (all calls depth : ℕ) → calls ≡ all → depth ≡ calls → all - depth ≡ 0
none_there all calls depth is same = omega (arith, is, same)

pub returns : goal.returns
returns c =
    let search = c.args.self.now in
    let program = search.program.now in
    let at_end : c.loop-depth.depth ≡ c.calls-calls.result = omega arith in
    let none = none_there (calls_together program.threads.items) c.calls-calls.result c.loop-depth.depth c.calls-calls.ensures at_end in (
      are_ends_of_all c.whole_within_some_turns.ensures.over c.settled_are_serial.ensures c.at_most_one_serial.ensures search
          c.loop-depth.work.trail c.loop-depth.layer.states _ c.requires.more
          (subst (λ (left : ℕ). Covers search left c.loop-depth.layer.states) none c.loop-depth.invariant.covers)
          c.in_ok-ends.ensures.told,
      has_some_places c.whole_within_some_turns.ensures.over program search.turns search.asked.now.answers c.loop-depth.depth
          c.len-configurations.result c.loop-depth.work.trail c.loop-depth.layer.states c.loop-depth.invariant.before.0
          c.loop-depth.invariant.layer c.loop-depth.invariant.before.1 (c.loop-depth.invariant.before.2 ∙ sym (ap (λ (t : List (List ℕ)). length t) c.in_ok-ends.ensures.trail) ∙ sym c.len-configurations.ensures),
    )
