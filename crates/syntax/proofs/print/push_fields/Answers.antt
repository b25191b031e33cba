use Rattle.std.proofs.Common.{refl, map}
use Rattle.syntax.specs.Views.{ident}
use Rattle.syntax.specs.Working.Printing.{many_text, field_text}
use Rattle.syntax.proofs.Added.{at_first, item_added, all_added}
use Rattle.syntax.proofs.print.push_fields.Goals as goal

pub loop-field-init : goal.loop-field-init
loop-field-init c = at_first _ _

pub loop-field-preserved : goal.loop-field-preserved
loop-field-preserved c =
    item_added (λ l. many_text field_text (map ident l)) c.args.fields.now c.loop-field.field-index c.field-item.result c.loop-field-test.true c.field-item.is refl c.loop-field.invariant (c.push_named.ensures)

pub returns : goal.returns
returns c =
    all_added (λ l. many_text field_text (map ident l)) c.args.fields.now c.loop-field.field-index c.loop-field-test.false refl c.loop-field.invariant
