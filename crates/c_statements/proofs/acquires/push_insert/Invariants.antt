use Rattle.std.proofs.Common.{◌≡◌, ◌-◌, ◌++◌, string_bytes}
use Rattle.c_statements.specs.Acquires.{exchange_text, upward}
use Rattle.c_statements.proofs.acquires.push_insert.Given as goal

abbrev pub invariant-loop-left : goal.invariant-loop-left
invariant-loop-left l =
    string_bytes l.out ++ upward exchange_text l.left (l.count - 1) ≡ string_bytes l.initial.out ++ upward exchange_text l.place (l.count - 1)
