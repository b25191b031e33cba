use Rattle.lockorder.specs.Working.Reached.{IsNearestBelow}
use Rattle.lockorder.proofs.cycles.Reached.nearest.Given as goal

abbrev pub invariant-loop-next : goal.invariant-loop-next
invariant-loop-next l = IsNearestBelow l.table.before.items l.self.distances.items l.class l.next l.nearest
