use Rattle.std.proofs.Common.{◌≡◌, map, drop}
use Rattle.flow.specs.Working.PointList.{point_at}
use Rattle.lockpaths.specs.Working.Finding.{over_points}
use Rattle.lockpaths.specs.Working.Told.{seen}
use Rattle.lockpaths.proofs.finder.Finder.points.Given as goal

abbrev pub invariant-loop-point : goal.invariant-loop-point
invariant-loop-point l =
    over_points l.self (seen l.found) (map point_at (drop l.point-index l.points)) ≡ over_points l.self (seen l.initial.found) (map point_at l.points)
