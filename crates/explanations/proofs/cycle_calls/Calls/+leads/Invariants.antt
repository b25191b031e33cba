use Rattle.std.proofs.Common.{◌≡◌, ◌-◌, map, take, false}
use Rattle.std.specs.List.{list_any}
use Rattle.flow.specs.Working.PointList.{point_at}
use Rattle.explanations.specs.CycleCalls.{leads}
use Rattle.explanations.proofs.cycle_calls.Calls.+leads.Given as goal

abbrev pub decreases-leads : goal.decreases-leads
decreases-leads l = l.depth

-- none of the helper's points so far leads to the class
abbrev pub invariant-loop-inner : goal.invariant-loop-inner
invariant-loop-inner l = list_any (leads l.self.program.now (l.depth - 1) l.at) (map point_at (take l.inner-index l.inner-items)) ≡ false
