use Rattle.std.proofs.Common.{◌≡◌, ◌++◌, string_bytes, take}
use Rattle.c_data.specs.Pools.{of_struct, pool_numbered}
use Rattle.std.specs.List.{flat_map}
use Rattle.c_data.proofs.writer.DataWriter.push_numbers.Given as goal

abbrev pub invariant-loop-pool : goal.invariant-loop-pool
invariant-loop-pool l =
    string_bytes l.out ≡ string_bytes l.initial.out ++ flat_map (of_struct pool_numbered l.number) (take l.pool-index l.self.names.program.now.shape.pools.items)
