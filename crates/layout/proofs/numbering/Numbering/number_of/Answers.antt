use Rattle.std.proofs.Common.{◌≡◌, Some, sym, subst, arith}
use Rattle.std.specs.Prelude.{slice_get}
use Rattle.std.proofs.lemmas.Option.{slice_get_within}
use Rattle.layout.proofs.Numbered.{found, in_field, in_global, sum_read}
use Rattle.layout.proofs.numbering.Numbering.number_of.Goals as goal

pub index-requires : goal.index-requires
index-requires c =
    let x = c.args.self.now in
    let f = found x.classes.items x.objects.items x.locks.items c.args.lock x.numbered c.requires in
    omega (arith, slice_get_within x.classes.items c.args.lock.class f.class f.class_is, x.classes.ok.0)

pub index-requires-in-Field : goal.index-requires-in-Field
index-requires-in-Field c =
    let x = c.args.self.now in
    let f = found x.classes.items x.objects.items x.locks.items c.args.lock x.numbered c.requires in
    let at = in_field x.classes.items x.objects.items x.locks.items c.args.lock f c.index.result.now c.index.ensures c.in-Field.field c.in-Field.is in
    omega (arith, slice_get_within x.objects.items c.args.lock.object at.place at.here, x.objects.ok.0)

pub overflow_add-result : goal.overflow_add-result
overflow_add-result c =
    let x = c.args.self.now in
    let f = found x.classes.items x.objects.items x.locks.items c.args.lock x.numbered c.requires in
    let sum = sum_read x.classes.items x.objects.items x.locks.items c.args.lock f c.index.result.now c.index.ensures c.in-Field.field c.index-in-Field.result.now c.in-Field.is c.index-in-Field.ensures in
    omega (arith, sum, slice_get_within x.locks.items f.number c.args.lock f.here, x.locks.ok.0)

pub returns-in-Global : goal.returns-in-Global
returns-in-Global c =
    let x = c.args.self.now in
    let f = found x.classes.items x.objects.items x.locks.items c.args.lock x.numbered c.requires in
    in_global x.classes.items x.objects.items x.locks.items c.args.lock f c.index.result.now c.index.ensures c.in-Global.number c.in-Global.is

pub returns-in-Field : goal.returns-in-Field
returns-in-Field c =
    let x = c.args.self.now in
    let f = found x.classes.items x.objects.items x.locks.items c.args.lock x.numbered c.requires in
    let sum = sum_read x.classes.items x.objects.items x.locks.items c.args.lock f c.index.result.now c.index.ensures c.in-Field.field c.index-in-Field.result.now c.in-Field.is c.index-in-Field.ensures in
    subst (λ (k : _). slice_get x.locks.items k ≡ Some c.args.lock) (sym sum) f.here
