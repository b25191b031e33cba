use Rattle.std.proofs.Common.{◌≡◌, ◌++◌, take, string_bytes}
use Rattle.std.specs.List.{flat_map}
use Rattle.c_statements.specs.Working.Loops.{pool_if}
use Rattle.c_statements.proofs.class_loops.ClassLoops.push.Given as goal

abbrev pub invariant-loop-pool : goal.invariant-loop-pool
invariant-loop-pool l = string_bytes l.out ≡ string_bytes l.initial.out ++ flat_map (pool_if l.self l.called) (take l.pool-index l.pool-items)
