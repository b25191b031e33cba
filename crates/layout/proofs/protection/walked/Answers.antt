use Rattle.std.proofs.Common.{◌∙◌, None, Some, sym, ap}
use Rattle.locks.specs.Locks.{led_to}
use Rattle.layout.proofs.Found.{no_class, of_global_class, of_field_class}
use Rattle.locks.specs.Theory.Written.{item_here, item_past}
use Rattle.layout.proofs.protection.walked.Goals as goal

pub returns-in_err-object-in-Field : goal.returns-in_err-object-in-Field
returns-in_err-object-in-Field c =
    let program = c.args.program.now in
    let p = c.args.protection.now in
    let x = c.in_ok-get.field-0 in
    let here = item_here program.classes.items c.deref.result.now p.class c.deref.ensures.value x c.in_ok-get.ensures.lookup in
    c.from_residual-in_err-object-in-Field.ensures
    ∙ sym (of_field_class program p c.args.object x.now c.in-Field.structure c.in-Field.lock None here c.in-Field.is
    (ap (led_to program.shape c.args.object) (sym c.deref-in-Field.ensures.value) ∙ sym c.in_err-object-in-Field.ensures))

pub returns-in_ok-object-in-Field : goal.returns-in_ok-object-in-Field
returns-in_ok-object-in-Field c =
    let program = c.args.program.now in
    let p = c.args.protection.now in
    let x = c.in_ok-get.field-0 in
    let here = item_here program.classes.items c.deref.result.now p.class c.deref.ensures.value x c.in_ok-get.ensures.lookup in
    sym (of_field_class program p c.args.object x.now c.in-Field.structure c.in-Field.lock (Some c.in_ok-object-in-Field.object) here c.in-Field.is
    (ap (led_to program.shape c.args.object) (sym c.deref-in-Field.ensures.value) ∙ sym c.in_ok-object-in-Field.ensures))

pub returns-in-Global : goal.returns-in-Global
returns-in-Global c =
    let program = c.args.program.now in
    let p = c.args.protection.now in
    let x = c.in_ok-get.field-0 in
    sym (of_global_class program p c.args.object x.now c.in-Global.field-0
    (item_here program.classes.items c.deref.result.now p.class c.deref.ensures.value x c.in_ok-get.ensures.lookup) c.in-Global.is)

pub returns-in_err-get : goal.returns-in_err-get
returns-in_err-get c =
    let program = c.args.program.now in
    let p = c.args.protection.now in
    c.from_residual.ensures
    ∙ sym (no_class program p c.args.object (item_past program.classes.items c.deref.result.now p.class c.deref.ensures.value c.in_err-get.ensures.lookup))
