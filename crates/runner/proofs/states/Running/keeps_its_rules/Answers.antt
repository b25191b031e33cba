use Rattle.std.proofs.Common.{subst}
use Rattle.worlds.specs.Waiting.{HasNext}
use Rattle.runner.specs.Working.Opens.{OpenOf}
use Rattle.runner.proofs.states.Running.keeps_its_rules.Goals as goal

pub returns-clause-next : goal.returns-clause-next
returns-clause-next c =
    let o = c.self.inside.open in
    let kept = c.keeps_its_rules.ensures in
    subst (λ (s : OpenOf). HasNext s.plan s.activation) c.self.view_is
    (c.sections_stay_in_order.ensures.next o.plan o.activation kept.compiled kept.in_order c.self.invariant.0 c.self.invariant.1)
