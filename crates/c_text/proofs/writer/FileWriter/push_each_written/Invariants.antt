use Rattle.std.proofs.Common.{◌≡◌, ◌++◌, string_bytes, drop}
use Rattle.c_statements.specs.Acquires.{numbered}
use Rattle.c_text.specs.Histories.{written_next}
use Rattle.c_text.proofs.writer.FileWriter.push_each_written.Given as goal

abbrev pub invariant-loop-number : goal.invariant-loop-number
invariant-loop-number l =
    string_bytes l.out ++ numbered (written_next l.self.names.prefix.now l.self.names.program.now) l.number (drop l.number l.locals)
    ≡ string_bytes l.initial.out ++ numbered (written_next l.self.names.prefix.now l.self.names.program.now) 0 l.locals
