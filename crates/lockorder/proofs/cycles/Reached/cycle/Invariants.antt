use Rattle.lockorder.proofs.Reaching.{IsWay}
use Rattle.lockorder.proofs.cycles.Reached.cycle.Given as goal

abbrev pub invariant-loop-distance : goal.invariant-loop-distance
invariant-loop-distance l = IsWay l.table.before.items l.self l.cycle.items l.class l.distance

abbrev pub decreases-loop-distance : goal.decreases-loop-distance
decreases-loop-distance l = l.distance
