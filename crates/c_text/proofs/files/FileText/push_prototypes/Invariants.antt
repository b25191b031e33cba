use Rattle.std.proofs.Common.{◌≡◌, ◌++◌, string_bytes, drop}
use Rattle.c_statements.specs.Acquires.{numbered}
use Rattle.c_text.specs.Files.{prototype_of}
use Rattle.c_text.proofs.files.FileText.push_prototypes.Given as goal

abbrev pub invariant-loop-number : goal.invariant-loop-number
invariant-loop-number l =
    string_bytes l.out ++ numbered (prototype_of l.self.prefix.now l.self.program.now.program l.self.program.now.lists) l.number (drop l.number l.self.program.now.program.sections.items)
    ≡ string_bytes l.initial.out ++ numbered (prototype_of l.self.prefix.now l.self.program.now.program l.self.program.now.lists) 0 l.self.program.now.program.sections.items
