use Rattle.std.proofs.Common.{subst}
use Rattle.locks.specs.Waiting.{HasNoCycle}
use Rattle.lock_manager.specs.Manager.{Managed}
use Rattle.lock_manager.specs.Working.Managers.{managed, askers_of, IsKept}
use Rattle.lock_manager.proofs.Rules.{asks_rise}
use Rattle.lock_manager.proofs.manager.Manager.keeps_its_rules.Goals as goal

pub returns-clause-no_circle : goal.returns-clause-no_circle
returns-clause-no_circle c =
    let x = c.self.inside in
    let m = managed x.committed x.ranks.now x.places.items x.queue x.sections x.history.commits in
    subst (λ (v : Managed). HasNoCycle (askers_of v)) c.self.view_is (c.no_circle.ensures m.ranks (askers_of m) (asks_rise m c.self.invariant.0))

pub returns-clause-rules_kept : goal.returns-clause-rules_kept
returns-clause-rules_kept c = subst IsKept c.self.view_is c.self.invariant.0
