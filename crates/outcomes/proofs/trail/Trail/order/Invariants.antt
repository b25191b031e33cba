use Rattle.std.proofs.Common.{◌≡◌, ◌<◌, [], ◌++◌, length, reverse, get_or}
use Rattle.outcomes.proofs.trail.Trail.order.Given as goal

-- the remaining order, and the threads found of it in reverse
abbrev pub invariant-loop-at : goal.invariant-loop-at
invariant-loop-at l = (l.at < length l.self) × (get_or l.self l.number [] ≡ get_or l.self l.at [] ++ reverse l.order.items)

abbrev pub decreases-loop-at : goal.decreases-loop-at
decreases-loop-at l = l.at
