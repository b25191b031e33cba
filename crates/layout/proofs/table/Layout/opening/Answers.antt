use Rattle.std.proofs.Common.{◌≡◌, Some, length, ap, subst}
use Rattle.std.specs.Prelude.{slice_get}
use Rattle.layout.specs.Layouts.{LayoutOf}
use Rattle.layout.proofs.Found.{opening_read}
use Rattle.layout.proofs.table.Layout.opening.Goals as goal

pub returns : goal.returns
returns c =
    let x = c.self.inside in
    subst (λ (v : LayoutOf). slice_get v.opening c.args.cell ≡ Some c.index.result.now.opening) c.self.view_is
    (opening_read x.cells.items c.args.cell (length c.args.self.now.opening) c.index.result.now c.requires c.index.ensures (ap (λ (v : LayoutOf). length v.opening) c.self.view_is))
