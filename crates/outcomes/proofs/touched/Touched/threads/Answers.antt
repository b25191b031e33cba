use Rattle.outcomes.proofs.Marked.{more_more}
use Rattle.outcomes.proofs.Threads.{threads_turn, all_threads}
use Rattle.outcomes.proofs.touched.Touched.threads.Goals as goal

pub loop-number-preserved : goal.loop-number-preserved
loop-number-preserved c = record {
  more = more_more c.args.self.now c.loop-number.self c.calls.new.self c.loop-number.invariant.more
      c.calls.ensures.more;
  each = threads_turn c.args.shape.now c.args.bodies.now c.loop-number.self c.calls.new.self c.calls.ensures.more
      c.args.threads.now c.loop-number.number
      c.index-threads-number.result c.deref.result.now c.loop-number-test.true c.index-threads-number.is
      c.deref.ensures.value c.loop-number.invariant.each (c.calls.ensures.marked c.if-not-calls.false);
}

pub returns-clause-marked : goal.returns-clause-marked
returns-clause-marked c e =
    all_threads c.args.shape.now c.args.bodies.now c.loop-number.self c.args.threads.now c.loop-number.number _
    c.loop-number-test.false c.loop-number.invariant.each
