use Rattle.std.proofs.Common.{◌≡◌, ◌++◌, take, string_bytes}
use Rattle.std.specs.List.{flat_map}
use Rattle.c_sections.specs.Working.Prototypes.{temporary_of}
use Rattle.c_sections.proofs.names.Writer.push_temporaries.Given as goal

abbrev pub invariant-loop-temporary : goal.invariant-loop-temporary
invariant-loop-temporary l =
    string_bytes l.out ≡ string_bytes l.initial.out ++ flat_map (temporary_of l.self) (take l.temporary-index l.list)
