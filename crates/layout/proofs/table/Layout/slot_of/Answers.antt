use Rattle.std.proofs.Common.{length, ap, subst, arith}
use Rattle.std.specs.List.{Contains}
use Rattle.layout.specs.LockCells.{IsSlot}
use Rattle.layout.specs.Layouts.{LayoutOf}
use Rattle.layout.proofs.Placed.{read_listed, read_slot}
use Rattle.layout.proofs.table.Layout.slot_of.Goals as goal

pub returns-clause-slot : goal.returns-clause-slot
returns-clause-slot c =
    let x = c.self.inside in
    subst (λ (v : LayoutOf). IsSlot v.cell_locks c.args.cell c.index-place.result.now.lock c.index-place.result.now.offset) c.self.view_is
    (read_slot x.numbering.locks.items x.cells.items x.sizes.items c.args.cell c.index-place.result.now c.self.invariant
    (omega (arith, ap (λ (v : LayoutOf). length v.cell_locks) c.self.view_is, c.requires)) c.index-place.ensures)

pub returns-clause-listed : goal.returns-clause-listed
returns-clause-listed c =
    let x = c.self.inside in
    subst (λ (v : LayoutOf). Contains v.locks c.index-place.result.now.lock) c.self.view_is
    (read_listed x.numbering.locks.items x.cells.items x.sizes.items c.args.cell c.index-place.result.now c.self.invariant
    (omega (arith, ap (λ (v : LayoutOf). length v.cell_locks) c.self.view_is, c.requires)) c.index-place.ensures)
