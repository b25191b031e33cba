use Rattle.std.proofs.Common.{◌≡◌, ◌++◌, drop, string_bytes}
use Rattle.c_statements.specs.Acquires.{numbered}
use Rattle.c_sections.specs.Working.Prototypes.{check_line_of}
use Rattle.c_sections.proofs.names.Writer.push_check_lines.Given as goal

abbrev pub invariant-loop-number : goal.invariant-loop-number
invariant-loop-number l =
    string_bytes l.out ++ numbered (check_line_of l.self) l.number (drop l.number l.list)
    ≡ string_bytes l.initial.out ++ numbered (check_line_of l.self) 0 l.list
