use Rattle.std.proofs.Common.{arith}
use Rattle.std.proofs.lemmas.Int.{ints, to_z-of_z}
use Rattle.std.proofs.lemmas.List.Sums.{fold_more}
use Rattle.report_runs.proofs.comparison.Told.sum_of.Goals as goal

pub loop-addend-preserved : goal.loop-addend-preserved
loop-addend-preserved c =
    record { same = grind (arith, ints, to_z-of_z, fold_more); low = omega (arith, ints); high = omega (arith, ints) }
