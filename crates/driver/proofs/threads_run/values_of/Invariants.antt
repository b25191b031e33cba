use Rattle.std.proofs.Common.{◌≡◌, take}
use Rattle.driver.proofs.threads_run.values_of.Given as goal

-- the values so far are those of the first cells
abbrev pub invariant-loop-cell : goal.invariant-loop-cell
invariant-loop-cell l = l.values.items ≡ take l.cell l.closed.values
