use Rattle.std.proofs.Common.{◌≡◌, ◌++◌, map, drop}
use Rattle.locks.specs.LockPaths.{lock_path_of}
use Rattle.c_statements.specs.Acquires as text
use Rattle.c_statements.specs.Working.Taken.{class_of}
use Rattle.c_statements.proofs.acquires.Acquires.of_class.Given as goal

abbrev pub invariant-loop-number : goal.invariant-loop-number
invariant-loop-number l =
    l.numbers.items ++ text.of_class l.class l.number (map lock_path_of (drop l.number l.self.paths.now)) ≡ class_of l.self l.class
