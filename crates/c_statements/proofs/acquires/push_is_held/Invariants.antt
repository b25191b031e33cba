use Rattle.std.proofs.Common.{◌≡◌, ◌++◌, string_bytes, take}
use Rattle.std.specs.List.{flat_map}
use Rattle.c_statements.specs.Acquires.{held, or_equals_text}
use Rattle.c_statements.proofs.acquires.push_is_held.Given as goal

abbrev pub invariant-loop-number : goal.invariant-loop-number
invariant-loop-number l =
    string_bytes l.out ≡ string_bytes l.initial.out ++ flat_map (λ i. or_equals_text l.place (held i)) (take l.number-index l.rest)
