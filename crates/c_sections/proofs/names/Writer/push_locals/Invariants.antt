use Rattle.std.proofs.Common.{◌≡◌, ◌++◌, drop, string_bytes}
use Rattle.c_statements.specs.Acquires.{numbered}
use Rattle.c_sections.specs.Working.Prototypes.{local_of, locals_of}
use Rattle.c_sections.proofs.names.Writer.push_locals.Given as goal

abbrev pub invariant-loop-number : goal.invariant-loop-number
invariant-loop-number l =
    string_bytes l.out ++ numbered (local_of l.self) l.number (drop l.number l.section.locals.items)
    ≡ string_bytes l.initial.out ++ locals_of l.self l.section
