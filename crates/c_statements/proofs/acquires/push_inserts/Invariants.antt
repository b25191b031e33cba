use Rattle.std.proofs.Common.{◌≡◌, ◌-◌, ◌++◌, string_bytes}
use Rattle.c_statements.specs.Acquires.{insert_text, downward}
use Rattle.c_statements.proofs.acquires.push_inserts.Given as goal

abbrev pub invariant-loop-place : goal.invariant-loop-place
invariant-loop-place l =
    string_bytes l.out ++ downward (insert_text l.count) l.place ≡ string_bytes l.initial.out ++ downward (insert_text l.count) (l.count - 1)
