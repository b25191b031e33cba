use Rattle.std.proofs.Common.{◌≡◌, ◌++◌, drop, string_bytes}
use Rattle.c_statements.specs.Acquires.{numbered}
use Rattle.c_sections.specs.Sections.{used_local}
use Rattle.c_sections.proofs.sections.push_used_locals.Given as goal

abbrev pub invariant-loop-number : goal.invariant-loop-number
invariant-loop-number l =
    string_bytes l.out ++ numbered used_local l.number (drop l.number l.section.locals.items)
    ≡ string_bytes l.initial.out ++ numbered used_local 0 l.section.locals.items
