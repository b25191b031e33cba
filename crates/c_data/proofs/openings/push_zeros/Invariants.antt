use Rattle.std.proofs.Common.{◌≡◌, ◌++◌, string_bytes, take}
use Rattle.c_data.specs.Openings.{array_opened, class_opened, global_opened, pool_opened}
use Rattle.std.specs.List.{flat_map}
use Rattle.c_data.proofs.openings.push_zeros.Given as goal

abbrev pub invariant-loop-pool : goal.invariant-loop-pool
invariant-loop-pool l =
    string_bytes l.out ≡ string_bytes l.initial.out ++ flat_map (pool_opened l.program) (take l.pool-index l.program.shape.pools.items)

abbrev pub invariant-loop-class : goal.invariant-loop-class
invariant-loop-class l =
    string_bytes l.out ≡ string_bytes l.initial.out ++ flat_map class_opened (take l.class-index l.program.classes.items)

abbrev pub invariant-loop-global : goal.invariant-loop-global
invariant-loop-global l =
    string_bytes l.out ≡ string_bytes l.initial.out ++ flat_map (global_opened l.program) (take l.global-index l.program.globals.items)

abbrev pub invariant-loop-array : goal.invariant-loop-array
invariant-loop-array l =
    string_bytes l.out ≡ string_bytes l.initial.out ++ flat_map (array_opened l.program) (take l.array-index l.program.shape.arrays.items)
