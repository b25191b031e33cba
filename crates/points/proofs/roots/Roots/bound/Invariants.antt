use Rattle.std.proofs.Common.{◌≡◌, ℕ, map, take}
use Rattle.flow.specs.Working.PointList.{point_at}
use Rattle.points.specs.Working.Dataflow.{column}
use Rattle.points.specs.Working.Scoping.{binds}
use Rattle.points.proofs.roots.Roots.bound.Given as goal

abbrev pub invariant-loop-point : goal.invariant-loop-point
invariant-loop-point l = (i : ℕ) → column i l.sets.items ≡ map (binds l.self.paths.now i) (map point_at (take l.point-index l.points))
