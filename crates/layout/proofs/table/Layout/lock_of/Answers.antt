use Rattle.std.proofs.Common.{◌≡◌, Some, length, ap, subst, arith}
use Rattle.std.specs.Prelude.{slice_get}
use Rattle.std.specs.List.{Contains}
use Rattle.layout.specs.Layouts.{LayoutOf}
use Rattle.layout.proofs.Found.{lock_read}
use Rattle.layout.proofs.Placed.{read_listed}
use Rattle.layout.proofs.table.Layout.lock_of.Goals as goal

pub returns-clause-listed : goal.returns-clause-listed
returns-clause-listed c =
    let x = c.self.inside in
    subst (λ (v : LayoutOf). Contains v.locks c.index.result.now.lock) c.self.view_is
    (read_listed x.numbering.locks.items x.cells.items x.sizes.items c.args.cell c.index.result.now c.self.invariant
    (omega (arith, ap (λ (v : LayoutOf). length v.cell_locks) c.self.view_is, c.requires)) c.index.ensures)

pub returns-clause-lock : goal.returns-clause-lock
returns-clause-lock c =
    let x = c.self.inside in
    subst (λ (v : LayoutOf). slice_get v.cell_locks c.args.cell ≡ Some c.index.result.now.lock) c.self.view_is
    (lock_read x.cells.items c.args.cell (length c.args.self.now.cell_locks) c.index.result.now c.requires c.index.ensures (ap (λ (v : LayoutOf). length v.cell_locks) c.self.view_is))
