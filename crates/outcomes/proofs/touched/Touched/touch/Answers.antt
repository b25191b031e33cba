use Rattle.std.proofs.Common.{sym, ap, ◌∙◌}
use Rattle.outcomes.specs.Working.Listing.{touch_at}
use Rattle.outcomes.proofs.Marked.{touch_is, path_told, field_told, local_told}
use Rattle.outcomes.proofs.touched.Touched.touch.Goals as goal

pub returns-in-Path-clause-marked : goal.returns-in-Path-clause-marked
returns-in-Path-clause-marked c e =
    touch_is c.args.caller.now c.path.new.self c.args.access _ (ap touch_at c.in-Path.is)
    (path_told c.args.caller.now c.path.new.self c.path.result c.in-Path.path.now c.path.ensures.marked
    (sym c.is_some.ensures ∙ e))

pub returns-in-Element-clause-marked : goal.returns-in-Element-clause-marked
returns-in-Element-clause-marked c e = touch_is c.args.caller.now
    (record { reads = c.element.new.marks; writes = c.args.self.now.writes }) c.args.access _
    (ap touch_at c.in-Element.is) (c.element.ensures.marked e)

pub returns-in-Local-clause-marked : goal.returns-in-Local-clause-marked
returns-in-Local-clause-marked c e = touch_is c.args.caller.now c.args.self.now c.args.access _
    (ap touch_at c.in-Local.is) (local_told c.args.caller.now.arguments.now c.in-Local.local e)

pub returns-in-SetElement-clause-marked : goal.returns-in-SetElement-clause-marked
returns-in-SetElement-clause-marked c e =
    touch_is c.args.caller.now (record { reads = c.args.self.now.reads; writes = c.element-in-SetElement.new.marks })
    c.args.access _ (ap touch_at c.in-SetElement.is) (c.element-in-SetElement.ensures.marked e)

pub returns-in-Some-clause-marked : goal.returns-in-Some-clause-marked
returns-in-Some-clause-marked c e =
    touch_is c.args.caller.now (record { reads = c.path-in-SetField.new.self.reads; writes = c.field.new.marks })
    c.args.access _ (ap touch_at c.in-SetField.is)
    (field_told c.args.caller.now c.path-in-SetField.new.self c.field.new.marks c.in-Some.base c.in-SetField.path.now
    c.in-SetField.field c.field.ensures.more c.in-Some.ensures.marked (c.field.ensures.marked e))
