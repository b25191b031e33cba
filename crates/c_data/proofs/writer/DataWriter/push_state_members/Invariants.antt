use Rattle.std.proofs.Common.{◌≡◌, ◌++◌, string_bytes, take, drop}
use Rattle.c_statements.specs.Acquires.{numbered}
use Rattle.c_data.specs.Types.{class_text, pool_text}
use Rattle.std.specs.List.{flat_map}
use Rattle.c_data.proofs.writer.DataWriter.push_state_members.Given as goal

abbrev pub invariant-loop-pool : goal.invariant-loop-pool
invariant-loop-pool l =
    string_bytes l.out ≡ string_bytes l.initial.out ++ flat_map (pool_text l.self.names.prefix.now l.self.names.program.now) (take l.pool-index l.self.names.program.now.shape.pools.items)

abbrev pub invariant-loop-number : goal.invariant-loop-number
invariant-loop-number l =
    string_bytes l.out ++ numbered (class_text l.self.names.prefix.now l.self.names.program.now) l.number (drop l.number l.self.names.program.now.classes.items)
    ≡ string_bytes l.initial.out ++ numbered (class_text l.self.names.prefix.now l.self.names.program.now) 0 l.self.names.program.now.classes.items
