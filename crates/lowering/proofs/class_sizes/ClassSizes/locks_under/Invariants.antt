use Rattle.std.proofs.Common.{◌≡◌, take}
use Rattle.std.specs.List.{sum_by}
use Rattle.locks.specs.declared.path.LockPath as written
use Rattle.locks.specs.LockPaths.{lock_path_of, most_named}
use Rattle.lowering.proofs.class_sizes.ClassSizes.locks_under.Given as goal

abbrev pub invariant-loop-path : goal.invariant-loop-path
invariant-loop-path l =
    l.count ≡ sum_by (λ (path : written.LockPath). most_named l.program.shape (lock_path_of path)) (take l.path-index l.paths)
