use Rattle.std.proofs.Common.{◌≡◌, ◌*◌, ◌^◌, take, pos, neg_ℤ, ◌≤ℤ◌}
use Rattle.report_runs.specs.Sums.{sum_of}
use Rattle.report_runs.proofs.comparison.Told.sum_of.Given as goal

abbrev pub invariant-loop-addend : goal.invariant-loop-addend
invariant-loop-addend l = record {
  same : l.sum ≡ sum_of l.self.cells.now l.self.values.now (take l.addend-index l.addends);
  low : neg_ℤ (pos (2 ^ 63 * l.addend-index)) ≤ℤ l.sum;
  high : l.sum ≤ℤ pos (2 ^ 63 * l.addend-index);
}
