use Rattle.std.proofs.Common.{ap, ◌∙◌, sym, Some, subst, refl, take, ℕ, List, ◌≤◌}
use Rattle.code.specs.Memory.{overwritten, Agrees}
use Rattle.lock_manager.proofs.Heaps.{have_at, have_more}
use Rattle.lock_manager.proofs.Lists.{never_both}
use Rattle.std.proofs.lemmas.List.{take_all}
use Rattle.core_lang.specs.declared.value.Value.{Value}
use Rattle.moved_cells.specs.Working.Grants.{numbered}
use Rattle.lock_manager.proofs.values.have.Goals as goal
use Rattle.core_lang.specs.Theory.Items.{both_false, some_same}

pub returns-then-not-same : goal.returns-then-not-same
returns-then-not-same c =
    both_false (λ a.
    never_both (c.same.ensures.1 (some_same _ _ (sym c.value.ensures
    ∙ have_at (overwritten c.args.values.now c.args.writes.now.writes.now) c.args.cells.now c.args.now.now c.loop-offset.offset _ _ c.requires.count c.loop-offset-test.true a))) c.if-not-same.true)

pub loop-offset-preserved : goal.loop-offset-preserved
loop-offset-preserved c =
    have_more (overwritten c.args.values.now c.args.writes.now.writes.now) c.args.cells.now c.args.now.now c.loop-offset.offset _ _ c.requires.count c.loop-offset-test.true c.loop-offset.invariant
    (c.value.ensures ∙ ap Some (c.same.ensures.0 c.if-not-same.false))

pub returns : goal.returns
returns c =
    let k = c.loop-offset.offset in
    let cells = c.args.cells.now in
    let values = c.args.now.now in
    let long = subst (λ (n : ℕ). n ≤ k) (sym c.requires.count) c.loop-offset-test.false in
    let heap = overwritten c.args.values.now c.args.writes.now.writes.now in (
      λ e. subst (λ (vs : List Value). Agrees heap (numbered cells vs)) (take_all k values long)
          (subst (λ (cs : List ℕ). Agrees heap (numbered cs (take k values))) (take_all k cells c.loop-offset-test.false) c.loop-offset.invariant),
      λ a. refl,
    )
