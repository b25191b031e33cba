use Rattle.std.proofs.Common.{◌≡◌, map, take, false}
use Rattle.flow.specs.Working.PointList.{point_at}
use Rattle.explanations.specs.CycleCalls.{starts_in}
use Rattle.explanations.proofs.cycle_calls.starts_in.Given as goal

-- none of the points so far starts here
abbrev pub invariant-loop-point : goal.invariant-loop-point
invariant-loop-point l = starts_in (map point_at (take l.point-index l.points)) l.at ≡ false
