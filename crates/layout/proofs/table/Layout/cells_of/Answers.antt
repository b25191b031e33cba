use Rattle.std.proofs.Common.{◌∙◌, length, ap}
use Rattle.layout.specs.LockCells.{cells_of}
use Rattle.layout.specs.Layouts.{LayoutOf}
use Rattle.layout.proofs.Placed.{size_read, size_within}
use Rattle.layout.proofs.table.Layout.cells_of.Goals as goal

pub index-requires : goal.index-requires
index-requires c =
    let x = c.self.inside in
    size_within x.numbering.locks.items x.sizes.items c.number_of.result _ c.args.lock c.self.invariant.long c.number_of.ensures x.sizes.ok.0

pub returns : goal.returns
returns c =
    let x = c.self.inside in
    size_read x.numbering.locks.items x.cells.items x.sizes.items c.number_of.result c.index.result.now c.args.lock c.self.invariant c.number_of.ensures c.index.ensures
    ∙ ap (λ (v : LayoutOf). length (cells_of v.cell_locks c.args.lock)) c.self.view_is
