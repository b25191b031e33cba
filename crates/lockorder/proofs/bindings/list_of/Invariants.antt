use Rattle.lockorder.proofs.Bound.{AreListedBelow}
use Rattle.lockorder.proofs.bindings.list_of.Given as goal

abbrev pub invariant-loop-point : goal.invariant-loop-point
invariant-loop-point l = AreListedBelow l.points l.point l.list.items
