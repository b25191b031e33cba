use Rattle.std.proofs.Common.{◌∙◌, ◌+◌, sym, ap}
use Rattle.core_lang.specs.declared.shape.Object.{Object}
use Rattle.core_lang.specs.Typing.{lookup}
use Rattle.std.specs.Prelude.{Option, slice_get}
use Rattle.locks.specs.Theory.Written.{item_here, item_past, item_copied}
use Rattle.locks.proofs.objects.final_of.Goals as goal

pub returns : goal.returns
returns c =
    let shape = c.args.shape.now in
    let x = c.in_ok-first.field-0 in
    let here = item_here shape.objects.items c.deref.result.now c.args.object c.deref.ensures.value x c.in_ok-first.ensures.lookup in
    c.copied.ensures
    ∙ item_copied shape.finals.items c.deref-2.result.now (x.now.finals + c.args.number) c.get-2.result c.deref-2.ensures.value c.get-2.ensures.lookup
    ∙ sym (ap (λ (r : Option Object). lookup r (λ (y : Object). slice_get shape.finals.items (y.finals + c.args.number))) here)

pub returns-in_err-first : goal.returns-in_err-first
returns-in_err-first c =
    let shape = c.args.shape.now in
    c.from_residual.ensures
    ∙ sym (ap (λ (r : Option Object). lookup r (λ (y : Object). slice_get shape.finals.items (y.finals + c.args.number)))
    (item_past shape.objects.items c.deref.result.now c.args.object c.deref.ensures.value c.in_err-first.ensures.lookup))
