use Rattle.std.proofs.Common.{◌≡◌, ◌++◌, drop, string_bytes}
use Rattle.c_statements.specs.Acquires.{numbered}
use Rattle.c_statements.specs.Working.Taken.{ask_at}
use Rattle.c_statements.proofs.acquires.Acquires.push_asked.Given as goal

abbrev pub invariant-loop-place : goal.invariant-loop-place
invariant-loop-place l =
    string_bytes l.out ++ numbered (ask_at l.self) l.place (drop l.place l.run) ≡ string_bytes l.initial.out ++ numbered (ask_at l.self) 0 l.run
