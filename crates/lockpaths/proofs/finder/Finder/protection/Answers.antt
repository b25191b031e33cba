use Rattle.std.proofs.Common.{◌∙◌, sym, ap}
use Rattle.std.specs.Option.{option_copied}
use Rattle.lockpaths.proofs.Reading.{item_here, item_past, no_struct, no_field, protection_here}
use Rattle.lockpaths.proofs.finder.Finder.protection.Goals as goal

pub returns : goal.returns
returns c =
    let program = c.args.self.now.program.now in
    let x = c.in_ok-structure.structure in
    let field = c.in_ok-field.field in
    sym (protection_here program c.args.structure c.args.field x.now field.now
    (item_here program.structs.items c.deref.result.now c.args.structure c.deref.ensures.value x c.in_ok-structure.ensures.lookup)
    (item_here x.now.fields.items c.deref-2.result.now c.args.field c.deref-2.ensures.value field c.in_ok-field.ensures.lookup))

pub returns-in_err-field : goal.returns-in_err-field
returns-in_err-field c =
    let program = c.args.self.now.program.now in
    let x = c.in_ok-structure.structure in
    ap option_copied c.from_residual-in_err-field.ensures
    ∙ sym (no_field program c.args.structure c.args.field x.now
    (item_here program.structs.items c.deref.result.now c.args.structure c.deref.ensures.value x c.in_ok-structure.ensures.lookup)
    (item_past x.now.fields.items c.deref-2.result.now c.args.field c.deref-2.ensures.value c.in_err-field.ensures.lookup))

pub returns-in_err-structure : goal.returns-in_err-structure
returns-in_err-structure c =
    let program = c.args.self.now.program.now in
    ap option_copied c.from_residual.ensures
    ∙ sym (no_struct program c.args.structure c.args.field
    (item_past program.structs.items c.deref.result.now c.args.structure c.deref.ensures.value c.in_err-structure.ensures.lookup))
