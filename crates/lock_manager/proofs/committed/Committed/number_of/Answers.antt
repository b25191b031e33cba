use Rattle.std.proofs.Common.{◌≡◌, ◌+◌, Some, ap, ◌∙◌, subst, arith}
use Rattle.lock_manager.specs.Working.Committed.{CommittedOf}
use Rattle.lock_manager.specs.Working.Managers.{number_from}
use Rattle.lock_manager.specs.Theory.Numbers.{number_found}
use Rattle.lock_manager.proofs.committed.Committed.number_of.Goals as goal

pub returns-clause-found : goal.returns-clause-found
returns-clause-found c =
    subst (λ (v : CommittedOf). number_from 0 v.layout.locks c.args.lock ≡ Some c.lock_number.result) c.self.view_is
    (number_found 0 c.self.inside.layout.now.locks c.args.lock c.lock_number.result c.self.invariant.distinct c.lock_number.ensures
    ∙ ap Some (let sum : 0 + c.lock_number.result ≡ c.lock_number.result = omega arith in sum))
