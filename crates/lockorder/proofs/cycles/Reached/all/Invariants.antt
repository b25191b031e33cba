use Rattle.std.proofs.Common.{◌≡◌, ◌-◌, length}
use Rattle.lockorder.proofs.Reaching.{AreDoneBelow}
use Rattle.lockorder.proofs.cycles.Reached.all.Given as goal

abbrev pub invariant-loop-done : goal.invariant-loop-done
invariant-loop-done l = record {
  target : l.reached.target ≡ l.target;
  done : AreDoneBelow l.table.before.items l.reached l.done;
}

abbrev pub decreases-loop-done : goal.decreases-loop-done
decreases-loop-done l = length l.table.before.items - l.done
