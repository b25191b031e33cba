use Rattle.std.proofs.Common.{subst, sym}
use Rattle.std.specs.List.{All, Contains}
use Rattle.lock_manager.specs.Working.Committed.{CommittedOf}
use Rattle.lock_manager.proofs.committed.Committed.are_in_step.Goals as goal

pub are_in_step-requires : goal.are_in_step-requires
are_in_step-requires c = subst (λ (v : CommittedOf). All (Contains v.layout.locks) c.args.held.now) (sym c.self.view_is) c.requires
