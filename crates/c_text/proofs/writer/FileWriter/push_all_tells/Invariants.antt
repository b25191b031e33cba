use Rattle.std.proofs.Common.{◌≡◌, ◌++◌, string_bytes, drop}
use Rattle.c_statements.specs.Acquires.{numbered}
use Rattle.c_text.specs.Histories.{tell_text, all_tells}
use Rattle.c_text.proofs.writer.FileWriter.push_all_tells.Given as goal

abbrev pub invariant-loop-number : goal.invariant-loop-number
invariant-loop-number l =
    string_bytes l.out
    ++ numbered (tell_text l.self.names.prefix.now l.self.names.program.now) l.number (drop l.number l.self.names.program.now.sections.items)
    ≡ string_bytes l.initial.out ++ all_tells l.self.names.prefix.now l.self.names.program.now
