use Rattle.std.proofs.Common.{◌≡◌, ◌++◌, drop}
use Rattle.lockorder.specs.Working.Tellings.{around}
use Rattle.lockorder.proofs.pairs.around.Given as goal

-- the pairs pushed so far, and those of the remaining classes, are all pairs
abbrev pub invariant-loop-i : goal.invariant-loop-i
invariant-loop-i l = l.pairs.items ++ around l.first (drop l.i l.cycle) ≡ around l.first l.cycle
