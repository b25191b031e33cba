use Rattle.std.proofs.Common.{◌≡◌, ◌++◌, string_bytes, take}
use Rattle.c_data.specs.Openings.{class_closed, pool_closed}
use Rattle.std.specs.List.{flat_map}
use Rattle.c_data.proofs.openings.push_all_closed.Given as goal

abbrev pub invariant-loop-pool : goal.invariant-loop-pool
invariant-loop-pool l =
    string_bytes l.out ≡ string_bytes l.initial.out ++ flat_map (pool_closed l.program) (take l.pool-index l.program.shape.pools.items)

abbrev pub invariant-loop-class : goal.invariant-loop-class
invariant-loop-class l =
    string_bytes l.out ≡ string_bytes l.initial.out ++ flat_map class_closed (take l.class-index l.program.classes.items)
