use Rattle.std.proofs.Common.{◌∙◌, None, Some, sym}
use Rattle.layout.proofs.Found.{of_global, of_element}
use Rattle.locks.specs.Theory.Written.{item_here, item_past}
use Rattle.layout.proofs.protection.protecting.Goals as goal

pub returns-in_ok-class-in-Element : goal.returns-in_ok-class-in-Element
returns-in_ok-class-in-Element c =
    let program = c.args.program.now in
    let x = c.in_ok-class-in-Element.field-0 in
    sym (of_element program c.args.owner c.in-Element.array c.in-Element.index (Some x.now) c.in-Element.is
    (item_here program.shape.arrays.items c.deref-in-Element.result.now c.in-Element.array c.deref-in-Element.ensures.value x c.in_ok-class-in-Element.ensures.lookup))

pub returns-in_ok-class-in-Global : goal.returns-in_ok-class-in-Global
returns-in_ok-class-in-Global c =
    let program = c.args.program.now in
    let x = c.in_ok-class-in-Global.field-0 in
    sym (of_global program c.args.owner c.in-Global.global (Some x.now) c.in-Global.is
    (item_here program.globals.items c.deref.result.now c.in-Global.global c.deref.ensures.value x c.in_ok-class-in-Global.ensures.lookup))

pub returns-in_err-class-in-Element : goal.returns-in_err-class-in-Element
returns-in_err-class-in-Element c =
    let program = c.args.program.now in
    c.from_residual-in_err-class-in-Element.ensures
    ∙ sym (of_element program c.args.owner c.in-Element.array c.in-Element.index None c.in-Element.is
    (item_past program.shape.arrays.items c.deref-in-Element.result.now c.in-Element.array c.deref-in-Element.ensures.value c.in_err-class-in-Element.ensures.lookup))

pub returns-in_err-class-in-Global : goal.returns-in_err-class-in-Global
returns-in_err-class-in-Global c =
    let program = c.args.program.now in
    c.from_residual.ensures
    ∙ sym (of_global program c.args.owner c.in-Global.global None c.in-Global.is
    (item_past program.globals.items c.deref.result.now c.in-Global.global c.deref.ensures.value c.in_err-class-in-Global.ensures.lookup))
