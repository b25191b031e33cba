use Rattle.std.proofs.Common.{take}
use Rattle.std.specs.List.{Contains, All}
use Rattle.moved_cells.specs.Working.Grants.{GrantOf}
use Rattle.lock_manager.proofs.fitting.all_held.Given as goal

abbrev pub invariant-loop-grant : goal.invariant-loop-grant
invariant-loop-grant l = All (λ (g : GrantOf). Contains l.held g.lock) (take l.grant-index l.grants)
