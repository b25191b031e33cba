use Rattle.std.proofs.Common.{subst}
use Rattle.runner.specs.Working.Opens.{HasTrueEntry}
use Rattle.runner.specs.Working.Ties.{ended_in}
use Rattle.runner.proofs.states.Ended.keeps_its_rules.Goals as goal

pub returns-clause-true_entry : goal.returns-clause-true_entry
returns-clause-true_entry c =
    let x = c.self.inside in
    let o = ended_in x.program.now x.ticket x.body.value in
    let kept = c.self.invariant.is_open in
    subst HasTrueEntry c.self.view_is
    (λ outcome is. c.sections_stay_in_order.ensures.ends o.plan o.thread o.step o.activation outcome kept.compiled kept.in_order is)
