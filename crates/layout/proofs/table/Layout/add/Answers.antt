use Rattle.std.proofs.Common.{◌≡◌, List, length, Some, ap, sym, subst, arith}
use Rattle.std.specs.Prelude.{slice_get}
use Rattle.std.proofs.lemmas.List.{length-map}
use Rattle.std.proofs.lemmas.Option.{slice_get_within}
use Rattle.layout.specs.declared.places.CellPlace.{CellPlace}
use Rattle.layout.specs.Layouts.{LayoutOf}
use Rattle.layout.specs.Working.Numbers.{ArePlaced}
use Rattle.layout.proofs.Numbered.{distinct}
use Rattle.layout.proofs.Placed.{offset_few, cell_added, one_longer, size_within}
use Rattle.layout.proofs.table.Layout.add.Goals as goal
use Rattle.layout.proofs.table.Layout.add.Goals.{In_ok-push}
use Rattle.core_lang.specs.Theory.Items.{read_at}

-- the size of the lock is the offset
size_is : (c : In_ok-push) →
    slice_get c.self.inside.sizes.items c.number_of-number.result ≡ Some c.index-offset.result.now
size_is c =
    let x = c.self.inside in
    read_at x.sizes.items c.number_of-number.result c.index-offset.result.now
    (omega (arith, c.self.invariant.long, slice_get_within x.numbering.locks.items c.number_of-number.result c.args.lock c.number_of-number.ensures)) c.index-offset.ensures

pub overflow_add-offset : goal.overflow_add-offset
overflow_add-offset c =
    let x = c.self.inside in
    omega (
      arith,
      offset_few x.numbering.locks.items x.cells.items x.sizes.items c.number_of-number.result c.args.lock c.index-offset.result.now c.self.invariant c.number_of-number.ensures (size_is c),
      length-map x.cells.items (λ (y : CellPlace). y.lock),
      ap (λ (v : LayoutOf). length v.cell_locks) c.self.view_is,
      c.requires.few,
    )

pub index_mut-requires : goal.index_mut-requires
index_mut-requires c =
    let x = c.self.inside in
    size_within x.numbering.locks.items x.sizes.items c.number_of-number.result _ c.args.lock c.self.invariant.long c.number_of-number.ensures x.sizes.ok.0

pub invariant_of-self-2 : goal.invariant_of-self-2
invariant_of-self-2 c =
    let x = c.self.inside in
    let n = x.numbering in
    cell_added n.locks.items x.cells.items c.push.new.self.items x.sizes.items c.number_of-number.result
    (record { opening = c.args.opening; lock = c.args.lock; offset = c.index-offset.result.now }) c.self.invariant
    (distinct n.classes.items n.objects.items n.locks.items n.numbered) c.number_of-number.ensures
    (read_at x.sizes.items c.number_of-number.result c.index-offset.result.now
    (omega (arith, c.self.invariant.long, slice_get_within n.locks.items c.number_of-number.result c.args.lock c.number_of-number.ensures)) c.index-offset.ensures)
    c.in_ok-push.ensures.items

pub returns : goal.returns
returns c =
    let x = c.self.inside in
    one_longer c.args.self.now x.cells.items c.push.new.self.items (record { opening = c.args.opening; lock = c.args.lock; offset = c.index-offset.result.now })
    x.numbering.locks.items c.self.view_is c.in_ok-push.ensures.items

pub invariant_of-self : goal.invariant_of-self
invariant_of-self c =
    let x = c.self.inside in
    subst (λ (cells : List CellPlace). ArePlaced x.numbering.locks.items cells x.sizes.items) (sym c.in_err-push.ensures.items) c.self.invariant

pub index-offset-requires : goal.index-offset-requires
index-offset-requires c =
    let x = c.self.inside in
    size_within x.numbering.locks.items x.sizes.items c.number_of-number.result _ c.args.lock c.self.invariant.long c.number_of-number.ensures x.sizes.ok.0
