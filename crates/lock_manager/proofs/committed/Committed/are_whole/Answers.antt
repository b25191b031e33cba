use Rattle.std.proofs.Common.{subst, sym}
use Rattle.std.specs.List.{All, Contains}
use Rattle.moved_cells.specs.Working.Grants.{GrantOf}
use Rattle.lock_manager.specs.Working.Committed.{CommittedOf}
use Rattle.lock_manager.proofs.committed.Committed.are_whole.Goals as goal

pub are_whole-requires : goal.are_whole-requires
are_whole-requires c = subst (λ (v : CommittedOf). All (λ (g : GrantOf). Contains v.layout.locks g.lock) c.args.grants.now) (sym c.self.view_is) c.requires
