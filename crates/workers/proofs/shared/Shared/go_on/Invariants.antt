use Rattle.runner.specs.Working.Answers.{open_of}
use Rattle.runner.specs.Working.Opens.{IsSame}
use Rattle.workers.specs.Working.LockEnds.{IsPartAt}
use Rattle.workers.proofs.shared.Shared.go_on.Given as goal

abbrev pub invariant-loop : goal.invariant-loop
invariant-loop g l = record {
  same : IsSame (open_of l.fn.going.next) (open_of l.next);
  part : IsPartAt g.J.Naming.plan l.front (open_of l.next);
}
