use Rattle.std.proofs.Common.{◌≡◌, ◌≤◌, ◌*◌, take, length}
use Rattle.std.specs.List.{flat_map}
use Rattle.locks.specs.Locks.{members_if}
use Rattle.lowering.proofs.class_sizes.objects_of.Given as goal

abbrev pub invariant-loop-pool : goal.invariant-loop-pool
invariant-loop-pool l = l.count ≡ length (flat_map (members_if l.structure) (take l.pool-index l.pool-items))
