use Rattle.std.proofs.Common.{subst}
use Rattle.runner.specs.Working.Opens.{IsSame}
use Rattle.runner.specs.Working.Answers.{open_of}
use Rattle.runner.specs.declared.states.Next.{Next}
use Rattle.workers.specs.Working.LockEnds.{IsPartAt}
use Rattle.workers.proofs.Guarding.{same-trans}
use Rattle.workers.proofs.Parts.{ran_part}
use Rattle.workers.proofs.shared.Shared.go_on.Goals as goal

pub loop-preserved-in-Running : goal.loop-preserved-in-Running
loop-preserved-in-Running g c =
    let plan = g.J.Naming.plan in
    let same = subst (λ (n : Next). IsSame (open_of c.args.going.next) (open_of n)) c.in-Running.is c.loop.invariant.same in
    let part = subst (λ (n : Next). IsPartAt plan c.loop.front (open_of n)) c.in-Running.is c.loop.invariant.part in
    record {
      same = same-trans (open_of c.args.going.next) c.in-Running.running _ same c.run.ensures.same;
      part = ran_part c.sections_stay_part.ensures plan c.loop.front _ _ c.in-Running.running _ c.run.ensures.ran part;
    }
