use Rattle.outcomes.proofs.Marked.{way_final, way_field}
use Rattle.outcomes.proofs.touched.Touched.step.Goals as goal

pub returns-in-Final-clause-marked : goal.returns-in-Final-clause-marked
returns-in-Final-clause-marked c =
    way_final c.args.caller.now c.args.self.now c.args.base c.target.result c.args.step _ _ c.in-Final.is
    c.target.ensures

pub returns-then-field-clause-marked : goal.returns-then-field-clause-marked
returns-then-field-clause-marked c =
    way_field c.args.caller.now (record { reads = c.field.new.marks; writes = c.args.self.now.writes }) c.args.base
    c.args.step _ _ c.in-Field.is
    (c.field.ensures.marked c.if-field.true)
