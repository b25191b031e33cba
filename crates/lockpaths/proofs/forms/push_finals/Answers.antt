use Rattle.std.proofs.Common.{◌∙◌, sym}
use Rattle.lockpaths.proofs.Walks.{final_branch, field_branch, no_branch}
use Rattle.lockpaths.proofs.forms.push_finals.Goals as goal

pub loop-field-preserved : goal.loop-field-preserved
loop-field-preserved c =
    final_branch c.args.fields.now c.loop-field.field-index _ _ _ _ _ c.in-Final.is c.loop-field-test.true c.in_ok-push-in-Final.ensures.items ∙ c.loop-field.invariant

pub returns-in-Field : goal.returns-in-Field
returns-in-Field c =
    sym c.loop-field.invariant ∙ field_branch c.args.fields.now c.loop-field.field-index _ _ _ _ c.in-Field.is c.loop-field-test.true

pub returns : goal.returns
returns c = sym c.loop-field.invariant ∙ no_branch c.args.fields.now c.loop-field.field-index _ c.loop-field-test.false
