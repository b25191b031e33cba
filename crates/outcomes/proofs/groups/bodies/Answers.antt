use Rattle.outcomes.proofs.Grouped.{listed_turn}
use Rattle.outcomes.proofs.groups.bodies.Goals as goal

pub loop-section-preserved : goal.loop-section-preserved
loop-section-preserved c =
    listed_turn c.loop-section.bodies.items c.push.new.self.items c.args.sections.now c.loop-section.section-index
    c.in_ok-body_of.field-0 c.section-item.result
    c.loop-section-test.true c.section-item.is c.in_ok-push.ensures.items c.loop-section.invariant
    c.in_ok-body_of.ensures
