use Rattle.std.proofs.Common.{◌≡◌, ◌++◌, drop, string_bytes}
use Rattle.c_statements.specs.Acquires.{numbered}
use Rattle.c_sections.specs.Sections.{argument_text}
use Rattle.c_sections.proofs.sections.push_arguments.Given as goal

abbrev pub invariant-loop-number : goal.invariant-loop-number
invariant-loop-number l =
    string_bytes l.out ++ numbered argument_text l.number (drop l.number l.list)
    ≡ string_bytes l.initial.out ++ numbered argument_text 0 l.list
