use Rattle.std.proofs.Common.{◌≡◌, ◌++◌, string_bytes, take}
use Rattle.std.specs.Prelude.{codes}
use Rattle.std.specs.List.{flat_map}
use Rattle.c_text.specs.Mains.{argument_text}
use Rattle.c_text.proofs.mains.push_arguments.Given as goal

abbrev pub invariant-loop-value : goal.invariant-loop-value
invariant-loop-value l =
    string_bytes l.out ≡ string_bytes l.initial.out ++ flat_map (λ v. codes ", " ++ argument_text v) (take l.value-index l.rest)
