use Rattle.std.proofs.Common.{◌≡◌, ◌++◌, drop, string_bytes}
use Rattle.c_statements.specs.Acquires.{numbered}
use Rattle.c_sections.specs.Sections.{parameters}
use Rattle.c_sections.specs.Working.Prototypes.{parameter_of, parameters_of}
use Rattle.c_sections.proofs.names.Writer.push_parameters.Given as goal

abbrev pub invariant-loop-number : goal.invariant-loop-number
invariant-loop-number l =
    string_bytes l.out ++ numbered (parameter_of l.self) l.number (drop l.number (parameters l.section))
    ≡ string_bytes l.initial.out ++ parameters_of l.self l.section
