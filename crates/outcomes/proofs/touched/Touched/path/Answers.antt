use Rattle.std.proofs.Common.{rules}
use Rattle.outcomes.proofs.Marked.{more_more, way_turn}
use Rattle.outcomes.proofs.touched.Touched.path.Goals as goal

pub loop-field-preserved : goal.loop-field-preserved
loop-field-preserved c = record {
  more = more_more c.args.self.now c.loop-field.self c.step.new.self c.loop-field.invariant.more c.step.ensures.more;
  way = way_turn c.args.caller.now c.loop-field.self c.step.new.self c.args.path.now.local
      c.deref-field-items.result.now c.loop-field.field-index _
      c.loop-field.reached c.in_ok-reached.reached c.step.ensures.more c.loop-field-test.true (search rules)
      c.loop-field.invariant.way c.in_ok-reached.ensures.marked;
}
