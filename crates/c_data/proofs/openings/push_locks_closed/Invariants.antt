use Rattle.std.proofs.Common.{◌≡◌, ◌++◌, string_bytes, take}
use Rattle.c_data.specs.Openings.{lock_closed}
use Rattle.std.specs.List.{flat_map}
use Rattle.c_data.proofs.openings.push_locks_closed.Given as goal

abbrev pub invariant-loop-lock : goal.invariant-loop-lock
invariant-loop-lock l =
    string_bytes l.out ≡ string_bytes l.initial.out ++ flat_map (lock_closed l.pool) (take l.lock-index l.structure.locks.items)
