use Rattle.outcomes.proofs.Marked.{more_more, touch_turn}
use Rattle.outcomes.proofs.touched.Touched.call.Goals as goal

pub loop-access-preserved : goal.loop-access-preserved
loop-access-preserved c = record {
  more = more_more c.args.self.now c.loop-access.self c.touch.new.self c.loop-access.invariant.more
      c.touch.ensures.more;
  each = touch_turn c.args.caller.now c.loop-access.self c.touch.new.self c.deref-access-items.result.now
      c.loop-access.access-index c.access-item.result
      c.touch.ensures.more c.loop-access-test.true c.access-item.is c.loop-access.invariant.each
      (c.touch.ensures.marked c.if-not-touch.false);
}
