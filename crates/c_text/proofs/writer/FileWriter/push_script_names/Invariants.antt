use Rattle.std.proofs.Common.{◌≡◌, ◌++◌, string_bytes, drop}
use Rattle.c_statements.specs.Acquires.{numbered}
use Rattle.c_text.specs.Mains.{script_name}
use Rattle.c_text.proofs.writer.FileWriter.push_script_names.Given as goal

abbrev pub invariant-loop-number : goal.invariant-loop-number
invariant-loop-number l =
    string_bytes l.out ++ numbered (script_name l.self.names.prefix.now) l.number (drop l.number l.self.names.program.now.threads.items)
    ≡ string_bytes l.initial.out ++ numbered (script_name l.self.names.prefix.now) 0 l.self.names.program.now.threads.items
