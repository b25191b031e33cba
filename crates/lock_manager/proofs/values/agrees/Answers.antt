use Rattle.std.proofs.Common.{ap, ◌∙◌, sym, Some, subst, refl}
use Rattle.std.proofs.lemmas.Option.{slice_get-get_or}
use Rattle.lock_manager.proofs.Heaps.{agrees_more, agrees_at, beyond}
use Rattle.lock_manager.proofs.Lists.{never_both}
use Rattle.code.specs.Memory.{Agrees}
use Rattle.std.proofs.lemmas.List.{take_all}
use Rattle.lock_manager.proofs.values.agrees.Goals as goal
use Rattle.core_lang.specs.Theory.Items.{both_false, some_same}

pub returns-then-cell-values : goal.returns-then-cell-values
returns-then-cell-values c =
    both_false (λ a. beyond c.args.values.now c.args.reads.now c.loop-cell.cell-index _ c.loop-cell-test.true c.if-cell-values.true a)

pub returns-then-not-same : goal.returns-then-not-same
returns-then-not-same c =
    both_false (λ a.
    never_both (c.same.ensures.1 (some_same _ _ (sym (slice_get-get_or c.args.values.now _ _ c.if-cell-values.false)
    ∙ agrees_at c.args.values.now c.args.reads.now c.loop-cell.cell-index _ c.loop-cell-test.true a))) c.if-not-same.true)

pub loop-cell-preserved : goal.loop-cell-preserved
loop-cell-preserved c =
    agrees_more c.args.values.now c.args.reads.now c.loop-cell.cell-index _ c.loop-cell-test.true c.loop-cell.invariant
    (slice_get-get_or c.args.values.now _ _ c.if-cell-values.false ∙ ap Some (c.same.ensures.0 c.if-not-same.false))

pub returns : goal.returns
returns c = (λ e. subst (Agrees c.args.values.now) (take_all c.loop-cell.cell-index c.args.reads.now c.loop-cell-test.false) c.loop-cell.invariant, λ a. refl)
