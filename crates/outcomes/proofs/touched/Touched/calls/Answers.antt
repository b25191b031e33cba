use Rattle.outcomes.proofs.Marked.{more_more}
use Rattle.outcomes.proofs.Threads.{calls_turn, all_calls}
use Rattle.outcomes.proofs.touched.Touched.calls.Goals as goal

pub loop-call-preserved : goal.loop-call-preserved
loop-call-preserved c = record {
  more = more_more c.args.self.now c.loop-call.self c.call_of.new.self c.loop-call.invariant.more
      c.call_of.ensures.more;
  each = calls_turn c.args.shape.now c.args.bodies.now c.loop-call.self c.call_of.new.self c.call_of.ensures.more
      c.args.thread c.args.calls.now
      c.loop-call.call-index c.call-item.result c.loop-call-test.true c.call-item.is c.loop-call.invariant.each
      (c.call_of.ensures.marked c.if-not-call_of.false);
}

pub returns-clause-marked : goal.returns-clause-marked
returns-clause-marked c e =
    all_calls c.args.shape.now c.args.bodies.now c.loop-call.self c.args.thread c.args.calls.now
    c.loop-call.call-index c.loop-call-test.false c.loop-call.invariant.each
