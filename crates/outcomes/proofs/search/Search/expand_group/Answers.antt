use Rattle.std.proofs.Common.{◌≡◌, ◌∙◌, ◌+◌, ℕ, List, length, Some, ap, sym, subst, refl, arith}
use Rattle.std.specs.Prelude.{slice_index}
use Rattle.outcomes.specs.declared.search.Work.{Work}
use Rattle.outcomes.specs.Working.Changes.{applied}
use Rattle.outcomes.specs.Working.Steps.{GoesOn, state_in}
use Rattle.outcomes.specs.Working.Reducing.{first_ready, by_group, by_thread, reduced_from}
use Rattle.outcomes.proofs.Going.{goes_visited, reached_still, stop_further}
use Rattle.outcomes.proofs.Covering.{ready_is, group_more, group_past, first_all}
use Rattle.outcomes.proofs.search.Search.expand_group.Goals as goal
use Rattle.outcomes.proofs.search.Search.expand_group.Goals.{then-groups-thread+in_ok-stop+in_default-2, else-groups-thread}

pub offset_bounds-groups-first : goal.offset_bounds-groups-first
offset_bounds-groups-first c =
    let there = ready_is c.args.self.now.program.now c.deref.result.now (length c.args.self.now.program.now.threads.items) c.in-Some.first (sym c.first_ready.ensures ∙ c.in-Some.is) in
    let few = c.requires.search.checked.within.threads in
    omega (arith, there.1, few)

pub bounds-groups-first : goal.bounds-groups-first
bounds-groups-first c =
    let there = ready_is c.args.self.now.program.now c.deref.result.now (length c.args.self.now.program.now.threads.items) c.in-Some.first (sym c.first_ready.ensures ∙ c.in-Some.is) in
    omega (arith, there.1, c.requires.groups)

pub loop-thread-init : goal.loop-thread-init
loop-thread-init c =
    let search = c.args.self.now in
    let groups = c.args.groups.now in
    let group = slice_index groups c.in-Some.first in
    record {
      goes = goes_visited search c.args.work.now c.visit.new.self c.args.from.now (by_group search groups group (state_in search c.args.from.now) 0)
          c.in_ok-visit.ensures c.requires.work (λ f left. refl);
      there = c.in_ok-visit.ensures.heap ∙ ap (applied c.args.from.now.changes.items) c.requires.work.back.opening;
    }

pub step-requires-clause-work : goal.step-requires-clause-work
step-requires-clause-work c = c.loop-thread.invariant.goes.work

pub step-requires-clause-there : goal.step-requires-clause-there
step-requires-clause-there c = c.loop-thread.invariant.there

pub step-requires-clause-from : goal.step-requires-clause-from
step-requires-clause-from c =
    let search = c.args.self.now in
    let groups = c.args.groups.now in
    reached_still search c.args.work.now c.loop-thread.work
    (by_group search groups (slice_index groups c.in-Some.first) (state_in search c.args.from.now) c.loop-thread.thread) c.args.from.now
    c.loop-thread.invariant.goes c.requires.from

pub loop-thread-preserved : goal.loop-thread-preserved
loop-thread-preserved c =
    let groups = c.args.groups.now in
    let search = c.args.self.now in
    let s = state_in search c.args.from.now in
    let t = c.loop-thread.thread in
    let group = slice_index groups c.in-Some.first in
    elim c.if-groups-thread.branch [
      | then-groups-thread+in_ok-stop+in_default-2 w ↦ record {
        goes = subst (λ (x : Work). GoesOn search c.args.work.now x (by_group search groups group s (t + 1))) (sym w.work-is)
            (group_more search groups group s t c.args.work.now c.loop-thread.work w.step.new.work c.loop-thread.invariant.goes
            (rw w.in_default-2.is at w.in_ok-stop.ensures.steps) w.if-groups-thread.true);
        there = ap (λ (x : Work). x.heap) w.work-is ∙ (rw w.in_default-2.is at w.in_ok-stop.ensures.there) ∙ c.loop-thread.invariant.there;
      }
      | else-groups-thread w ↦ record {
        goes = subst (λ (x : Work). GoesOn search c.args.work.now x (by_group search groups group s (t + 1))) (sym w.work-is)
            (group_past search groups group s t c.args.work.now c.loop-thread.work c.loop-thread.invariant.goes w.if-groups-thread.false);
        there = ap (λ (x : Work). x.heap) w.work-is ∙ c.loop-thread.invariant.there;
      }
    ]

pub returns-in-Some-2 : goal.returns-in-Some-2
returns-in-Some-2 c =
    let groups = c.args.groups.now in
    let search = c.args.self.now in
    let program = search.program.now in
    let s = state_in search c.args.from.now in
    let t = c.loop-thread.thread in
    let u = c.in-Some.first in
    let ready : first_ready program s.done (length program.threads.items) ≡ Some u =
    ap (λ (d : List ℕ). first_ready program d (length program.threads.items)) (sym c.deref.ensures.value) ∙ sym c.first_ready.ensures ∙ c.in-Some.is in
    stop_further search c.args.work.now c.loop-thread.work c.step.new.work (by_group search groups (slice_index groups u) s t)
    (by_thread search s t) (reduced_from search groups s) c.in-Some-2.stop c.loop-thread.invariant.goes
    (λ f left. first_all search groups s u t f left ready (omega (arith, c.loop-thread-test.true, c.len-thread-end.ensures)) c.if-groups-thread.true)
    (rw c.in-Some-2.is at c.in_ok-stop.ensures.steps)
