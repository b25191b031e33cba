use Rattle.std.proofs.Common.{◌≡◌, take}
use Rattle.lock_manager.proofs.opening.opening_values.Given as goal

abbrev pub invariant-loop-cell : goal.invariant-loop-cell
invariant-loop-cell l = l.values.items ≡ take l.cell l.layout.opening
