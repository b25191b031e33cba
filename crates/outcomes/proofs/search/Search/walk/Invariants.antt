use Rattle.std.proofs.Common.{◌≤◌, ◌-◌, length}
use Rattle.outcomes.specs.Working.Drawing.{IsWalk}
use Rattle.outcomes.proofs.search.Search.walk.Given as goal

-- the calls so far lead to this state
abbrev pub invariant-loop-alloc : goal.invariant-loop-alloc
invariant-loop-alloc l = record {
  walk : IsWalk l.self l.walk;
  few : length l.walk.order.items ≤ l.calls;
}

abbrev pub decreases-loop-alloc : goal.decreases-loop-alloc
decreases-loop-alloc l = l.calls - length l.walk.order.items
