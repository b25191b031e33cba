use Rattle.std.proofs.Common.{◌≡◌, Some, ap, subst, ◌∙◌, arith}
use Rattle.std.specs.Prelude.{slice_get}
use Rattle.std.proofs.lemmas.Option.{slice_get_within}
use Rattle.layout.specs.declared.places.ClassPlace.{ClassPlace}
use Rattle.layout.specs.Working.Numbers.{number_at}
use Rattle.layout.proofs.Numbered.{found_at, class_read, in_global, distinct}
use Rattle.layout.proofs.numbering.Numbering.find.Goals as goal

pub returns-then-lock-len : goal.returns-then-lock-len
returns-then-lock-len c = λ n here.
    let x = c.args.self.now in
    let f = found_at x.classes.items x.objects.items x.locks.items c.args.lock x.numbered n here in
    absurd (omega (arith, slice_get_within x.classes.items c.args.lock.class f.class f.class_is, c.if-lock-len.true))

pub returns-in-Global : goal.returns-in-Global
returns-in-Global c = λ n here.
    let x = c.args.self.now in
    let f = found_at x.classes.items x.objects.items x.locks.items c.args.lock x.numbered n here in
    let at = in_global x.classes.items x.objects.items x.locks.items c.args.lock f c.index.result.now c.index.ensures c.in-Global.number c.in-Global.is in
    ap Some (distinct x.classes.items x.objects.items x.locks.items x.numbered c.in-Global.number n c.args.lock at here)

pub returns-in-Field : goal.returns-in-Field
returns-in-Field c = λ n here.
    let x = c.args.self.now in
    let f = found_at x.classes.items x.objects.items x.locks.items c.args.lock x.numbered n here in
    c.in_object.ensures n (omega (arith, slice_get_within x.locks.items n c.args.lock here, x.locks.ok.0))
    (subst (λ (p : ClassPlace). number_at p (slice_get x.objects.items c.args.lock.object) ≡ Some n)
    (class_read x.classes.items x.objects.items x.locks.items c.args.lock f c.index.result.now c.index.ensures ∙ c.in-Field.is)
    (f.number_is ∙ ap Some (distinct x.classes.items x.objects.items x.locks.items x.numbered f.number n c.args.lock f.here here)))
