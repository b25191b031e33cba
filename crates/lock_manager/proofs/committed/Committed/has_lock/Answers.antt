use Rattle.std.proofs.Common.{subst, sym}
use Rattle.std.specs.List.{Contains}
use Rattle.lock_manager.specs.Working.Committed.{CommittedOf}
use Rattle.lock_manager.proofs.committed.Committed.has_lock.Goals as goal

pub returns : goal.returns
returns c = (
  λ e. subst (λ (v : CommittedOf). Contains v.layout.locks c.args.lock) c.self.view_is (c.has_lock.ensures.0 e),
  λ there. c.has_lock.ensures.1 (subst (λ (v : CommittedOf). Contains v.layout.locks c.args.lock) (sym c.self.view_is) there),
)
