use Rattle.std.proofs.Common.{◌≡◌, map, take}
use Rattle.locks.specs.LockPaths.{lock_path_of}
use Rattle.lockpaths.specs.Working.Places.{path_at}
use Rattle.lockpaths.proofs.found.PathCollector.lock_paths.Given as goal

abbrev pub invariant-loop-place : goal.invariant-loop-place
invariant-loop-place l = map lock_path_of l.list.items ≡ map (path_at l.self.known.paths) (take l.place-index l.place-items)
