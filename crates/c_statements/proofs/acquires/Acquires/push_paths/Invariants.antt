use Rattle.std.proofs.Common.{◌≡◌, ◌++◌, take, string_bytes}
use Rattle.c_statements.specs.Working.Taken.{paths_of}
use Rattle.c_statements.proofs.acquires.Acquires.push_paths.Given as goal

abbrev pub invariant-loop-number : goal.invariant-loop-number
invariant-loop-number l = string_bytes l.out ≡ string_bytes l.initial.out ++ paths_of l.self (take l.number-index l.list)
