use Rattle.std.proofs.Common.{◌≡◌, ◌++◌, map, string_bytes, take}
use Rattle.explanation.specs.Warnings.{warning_of}
use Rattle.explanation.specs.Working.Values.{warning_texts_of}
use Rattle.explanation.proofs.notes.Places.push_warnings.Given as goal

abbrev pub invariant-loop-warning : goal.invariant-loop-warning
invariant-loop-warning l =
    string_bytes l.out ≡ string_bytes l.initial.out ++ warning_texts_of l.self (map warning_of (take l.warning-index l.warnings))
