use Rattle.std.proofs.Common.{get_or, length, sym, ap, ◌∙◌, arith}
use Rattle.locks.specs.declared.lock.Lock.{Lock}
use Rattle.locks.specs.Locks.{same_lock}
use Rattle.locks.specs.Theory.Order.{same_is}
use Rattle.layout.specs.LockCells.{cells_of}
use Rattle.moved_cells.specs.Working.Grants.{GrantOf, IsWhole}
use Rattle.lock_manager.proofs.InStep.{in_step_more, all_in_step}
use Rattle.lock_manager.proofs.Lists.{item_more, not_false}
use Rattle.lock_manager.proofs.fitting.are_in_step.Goals as goal

pub loop-i-preserved : goal.loop-i-preserved
loop-i-preserved c =
    let d : Lock = record { class = 0; object = 0 } in
    let cell_locks = c.args.layout.now.cell_locks in
    let held = get_or c.args.held.now c.loop-i.i d in
    let grant = c.index-grants-i.result in
    let same = same_is c.lock.result held (not_false (same_lock c.lock.result held) (sym c.ne.ensures ∙ c.if-ne.false)) in
    record {
      same = in_step_more c.args.grants.now c.args.held.now c.loop-i.i grant d (omega (arith, c.loop-i-test.true, c.if-grants-held.false)) c.loop-i-test.true
          (ap (λ (g : GrantOf). g.lock) (sym c.index-grants-i.is) ∙ sym c.lock.ensures ∙ same) c.loop-i.invariant.same;
      whole = item_more (IsWhole cell_locks) c.args.grants.now c.loop-i.i grant (omega (arith, c.loop-i-test.true, c.if-grants-held.false)) c.index-grants-i.is c.loop-i.invariant.whole
          (sym (ap length c.values.ensures) ∙ c.if-values-cells.false ∙ c.cells_of-cells.ensures ∙ ap (λ (l : Lock). length (cells_of cell_locks l)) (sym same ∙ c.lock.ensures));
    }

pub returns : goal.returns
returns c = λ t.
    all_in_step c.args.layout.now.cell_locks c.args.held.now c.args.grants.now c.loop-i.i c.if-grants-held.false c.loop-i-test.false c.loop-i.invariant.same c.loop-i.invariant.whole
