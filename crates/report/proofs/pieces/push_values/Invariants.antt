use Rattle.std.proofs.Common.{◌≡◌, ◌++◌, string_bytes, take}
use Rattle.std.specs.Prelude.{codes}
use Rattle.std.specs.List.{flat_map}
use Rattle.report.specs.Pieces.{value_text}
use Rattle.report.proofs.pieces.push_values.Given as goal

abbrev pub invariant-loop-value : goal.invariant-loop-value
invariant-loop-value l =
    string_bytes l.out ≡ string_bytes l.initial.out
    ++ flat_map (λ value. codes ", " ++ value_text l.shape value) (take l.value-index l.rest)
