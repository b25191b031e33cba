use Rattle.std.proofs.Common.{◌≡◌, ◌++◌, string_bytes, drop}
use Rattle.c_statements.specs.Acquires.{numbered}
use Rattle.c_data.specs.Openings.{object_named}
use Rattle.c_data.proofs.openings.push_all_named.Given as goal

abbrev pub invariant-loop-number : goal.invariant-loop-number
invariant-loop-number l =
    string_bytes l.out ++ numbered (object_named l.program) l.number (drop l.number l.program.shape.objects.items)
    ≡ string_bytes l.initial.out ++ numbered (object_named l.program) 0 l.program.shape.objects.items
