use Rattle.std.proofs.Common.{◌∙◌, refl}
use Rattle.code.specs.Lowering.{fields_code}
use Rattle.lowering.proofs.Pieces.{field_turn, path_starts, none_left}
use Rattle.lowering.proofs.assembler.Assembler.path.Goals as goal

pub loop-field-init : goal.loop-field-init
loop-field-init c =
    path_starts c.args.self.now.instructions.items c.put.new.self.instructions.items c.args.path.now c.deref-field-items.result.now c.in_ok-put.ensures
    c.deref-field-items.ensures.value

pub loop-field-preserved : goal.loop-field-preserved
loop-field-preserved c =
    field_turn c.deref-field-items.result.now c.loop-field.field-index _ c.field.result c.loop-field-test.true c.field.ensures c.loop-field.self.instructions.items
    c.put-in-loop-field.new.self.instructions.items c.in_ok-put-2.ensures
    ∙ c.loop-field.invariant

pub returns : goal.returns
returns c =
    none_left fields_code c.deref-field-items.result.now c.loop-field.field-index c.loop-field.self.instructions.items _ c.loop-field-test.false refl c.loop-field.invariant
