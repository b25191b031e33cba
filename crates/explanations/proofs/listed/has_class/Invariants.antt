use Rattle.std.proofs.Common.{◌≡◌, drop, map}
use Rattle.std.specs.List.{list_any}
use Rattle.locks.specs.LockPaths.{lock_path_of}
use Rattle.explanations.specs.ListedClasses.{is_of}
use Rattle.explanations.proofs.listed.has_class.Given as goal

-- the rest of the paths decides
abbrev pub invariant-loop-path : goal.invariant-loop-path
invariant-loop-path l =
    list_any (is_of l.class) (map lock_path_of (drop l.path-index l.paths)) ≡ list_any (is_of l.class) (map lock_path_of l.paths)
