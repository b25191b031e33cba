use Rattle.std.proofs.Common.{◌≡◌, drop}
use Rattle.lockorder.specs.ClassPairs.{classes_of_pair}
use Rattle.lockorder.specs.Faults.{classes_of}
use Rattle.report_check.specs.Order.{goes, is_on}
use Rattle.report_check.proofs.edges.is_on.Given as goal

-- the remaining edges decide
abbrev pub invariant-loop-i : goal.invariant-loop-i
invariant-loop-i l = is_on l.cycle l.pair ≡ goes l.first (classes_of (drop l.i l.cycle)) (classes_of_pair l.pair)
