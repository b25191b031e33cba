use Rattle.std.proofs.Common.{◌≡◌, ◌++◌, string_bytes}
use Rattle.c_statements.specs.Acquires.{lock_text, upward}
use Rattle.c_statements.proofs.acquires.push_locks.Given as goal

abbrev pub invariant-loop-place : goal.invariant-loop-place
invariant-loop-place l =
    string_bytes l.out ++ upward lock_text l.place l.count ≡ string_bytes l.initial.out ++ upward lock_text 0 l.count
