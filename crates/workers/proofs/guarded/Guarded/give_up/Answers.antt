use Rattle.workers.proofs.Parts.{guarded_kept}
use Rattle.workers.proofs.guarded.Guarded.give_up.Goals as goal

pub invariant_of-self : goal.invariant_of-self
invariant_of-self g c =
    guarded_kept g.J.Naming.plan _ _ c.self.inside.log c.self.inside.ends c.give_up.ensures.given_up.gives_up.entries c.self.invariant.0
    c.self.invariant.1 c.self.invariant.2 c.self.invariant.3
