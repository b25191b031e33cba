use Rattle.std.proofs.Common.{◌≡◌, ◌+◌, ◌++◌, string_bytes}
use Rattle.c_statements.specs.Acquires.{asked, or_equals_text, upward}
use Rattle.c_statements.proofs.acquires.push_is_later.Given as goal

abbrev pub invariant-loop-later : goal.invariant-loop-later
invariant-loop-later l =
    string_bytes l.out ++ upward (λ i. or_equals_text l.place (asked i)) l.later l.count
    ≡ string_bytes l.initial.out ++ upward (λ i. or_equals_text l.place (asked i)) (l.place + 1) l.count
