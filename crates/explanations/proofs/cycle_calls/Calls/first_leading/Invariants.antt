use Rattle.std.proofs.Common.{◌≡◌, map, take, None}
use Rattle.std.specs.Prelude.{find}
use Rattle.flow.specs.Working.PointList.{point_at}
use Rattle.explanations.specs.CycleCalls.{deepest, leads}
use Rattle.explanations.proofs.cycle_calls.Calls.first_leading.Given as goal

-- none of the points so far leads to the class
abbrev pub invariant-loop-point : goal.invariant-loop-point
invariant-loop-point l = find (leads l.self.program.now deepest l.at) (map point_at (take l.point-index l.points)) ≡ None
