use Rattle.std.proofs.Common.{◌≡◌, ◌+◌, ◌++◌, string_bytes, drop}
use Rattle.c_data.specs.Openings.{finals_named}
use Rattle.c_data.proofs.openings.push_finals_named.Given as goal

-- the written text and that of the remaining final references are the whole text
abbrev pub invariant-loop-number : goal.invariant-loop-number
invariant-loop-number l =
    let finals = l.structure.finals.items in
    string_bytes l.out ++ finals_named l.program l.object (l.first + l.number) (drop l.number finals)
    ≡ string_bytes l.initial.out ++ finals_named l.program l.object l.first finals
