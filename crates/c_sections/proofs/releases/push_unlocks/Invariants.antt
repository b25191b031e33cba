use Rattle.std.proofs.Common.{◌≡◌, ◌++◌, map, length, string_bytes}
use Rattle.locks.specs.LockPaths.{lock_path_of}
use Rattle.c_statements.specs.Acquires.{downward}
use Rattle.c_sections.specs.Sections.{unlock_line}
use Rattle.c_sections.proofs.releases.push_unlocks.Given as goal

abbrev pub invariant-loop-number : goal.invariant-loop-number
invariant-loop-number l =
    string_bytes l.out ++ downward (unlock_line l.program (map lock_path_of l.paths)) l.number
    ≡ string_bytes l.initial.out ++ downward (unlock_line l.program (map lock_path_of l.paths)) (length l.paths)
