use Rattle.std.proofs.Common.{◌≡◌, ◌++◌, string_bytes, drop}
use Rattle.c_statements.specs.Acquires.{numbered}
use Rattle.c_data.specs.Pools.{test_text}
use Rattle.c_data.proofs.writer.DataWriter.push_pointer_tests.Given as goal

abbrev pub invariant-loop-number : goal.invariant-loop-number
invariant-loop-number l =
    string_bytes l.out ++ numbered (test_text l.self.names.prefix.now l.self.names.program.now) l.number (drop l.number l.self.names.program.now.structs.items)
    ≡ string_bytes l.initial.out ++ numbered (test_text l.self.names.prefix.now l.self.names.program.now) 0 l.self.names.program.now.structs.items
