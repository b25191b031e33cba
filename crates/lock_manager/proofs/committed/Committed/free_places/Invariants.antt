use Rattle.std.proofs.Common.{take, map, ◌≡◌, List, ℕ}
use Rattle.moved_cells.specs.Working.Grants.{values_on}
use Rattle.lock_manager.specs.declared.places.LockPlace.TheVariants.{Free}
use Rattle.lock_manager.specs.Working.Committed.{rows}
use Rattle.lock_manager.proofs.committed.Committed.free_places.Given as goal

abbrev pub invariant-loop-row : goal.invariant-loop-row
invariant-loop-row l = l.places.items ≡ map (λ (r : List ℕ). Free (values_on l.self.values r)) (take l.row-index (rows l.self-inside.members.items))
