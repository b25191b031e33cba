use Rattle.std.proofs.Common.{◌≡◌, map, drop}
use Rattle.flow.specs.Working.PointList.{point_at}
use Rattle.language_server.specs.Working.Latest.{latest_at}
use Rattle.language_server.proofs.statements.last_of.Given as goal

-- the latest statement among the points so far and the remaining ones is that of all points
abbrev pub invariant-loop-point : goal.invariant-loop-point
invariant-loop-point l =
    latest_at l.stretch l.last (map point_at (drop l.point-index l.points)) ≡ latest_at l.stretch l.fn.found (map point_at l.points)
