use Rattle.std.proofs.Common.{◌≡◌, ◌++◌, [], drop, string_bytes}
use Rattle.c_statements.specs.Working.Taken.{left_of}
use Rattle.c_statements.proofs.acquires.Acquires.push.Given as goal

-- the written text, the current run and the remaining paths are the text of all runs
abbrev pub invariant-loop-number : goal.invariant-loop-number
invariant-loop-number l =
    string_bytes l.out ++ left_of l.self l.run.items (drop l.number-index l.list) ≡ string_bytes l.initial.out ++ left_of l.self [] l.list
