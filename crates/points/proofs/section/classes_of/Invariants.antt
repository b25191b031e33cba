use Rattle.std.proofs.Common.{◌≡◌, map, take}
use Rattle.locks.specs.declared.path.LockPath as written
use Rattle.points.proofs.section.classes_of.Given as goal

abbrev pub invariant-loop-path : goal.invariant-loop-path
invariant-loop-path l = l.classes.items ≡ map (λ (path : written.LockPath). path.class) (take l.path-index l.paths)
