use Rattle.std.proofs.Common.{◌+◌, ◌∙◌, ap, arith}
use Rattle.outcomes.specs.Working.Changes.{applied}
use Rattle.outcomes.specs.Working.Steps.{made_below, made_by, made_from}
use Rattle.outcomes.proofs.Going.{goes_again, goes_visited, made_none, reached_still, below_more, below_all, stop_further}
use Rattle.outcomes.proofs.search.Search.expand.Goals as goal

pub loop-thread-init : goal.loop-thread-init
loop-thread-init c = record {
  goes = goes_visited c.args.self.now c.args.work.now c.visit.new.self c.args.from.now (made_below c.args.self.now c.args.from.now 0)
      c.in_ok-visit.ensures c.requires.work (made_none c.args.self.now c.args.from.now);
  there = c.in_ok-visit.ensures.heap ∙ ap (applied c.args.from.now.changes.items) c.requires.work.back.opening;
}

pub step-requires-clause-work : goal.step-requires-clause-work
step-requires-clause-work c = c.loop-thread.invariant.goes.work

pub step-requires-clause-there : goal.step-requires-clause-there
step-requires-clause-there c = c.loop-thread.invariant.there

pub step-requires-clause-from : goal.step-requires-clause-from
step-requires-clause-from c =
    reached_still c.args.self.now c.args.work.now c.loop-thread.work (made_below c.args.self.now c.args.from.now c.loop-thread.thread) c.args.from.now
    c.loop-thread.invariant.goes c.requires.from

pub loop-thread-preserved : goal.loop-thread-preserved
loop-thread-preserved c = record {
  there = (rw c.in_default.is at c.in_ok-stop.ensures.there) ∙ c.loop-thread.invariant.there;
  goes =
      goes_again c.args.self.now c.args.work.now c.loop-thread.work c.step.new.work (made_below c.args.self.now c.args.from.now c.loop-thread.thread)
      (made_by c.args.self.now c.args.from.now c.loop-thread.thread) (made_below c.args.self.now c.args.from.now (c.loop-thread.thread + 1))
      c.loop-thread.invariant.goes (rw c.in_default.is at c.in_ok-stop.ensures.steps)
      (below_more c.args.self.now c.args.from.now c.loop-thread.thread);
}

pub returns-in-Some : goal.returns-in-Some
returns-in-Some c =
    stop_further c.args.self.now c.args.work.now c.loop-thread.work c.step.new.work (made_below c.args.self.now c.args.from.now c.loop-thread.thread)
    (made_by c.args.self.now c.args.from.now c.loop-thread.thread) (made_from c.args.self.now c.args.from.now) c.in-Some.stop
    c.loop-thread.invariant.goes (λ f left. below_all c.args.self.now c.args.from.now c.loop-thread.thread f left (omega (arith, c.loop-thread-test.true, c.len-thread-end.ensures)))
    (rw c.in-Some.is at c.in_ok-stop.ensures.steps)
