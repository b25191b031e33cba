use Rattle.std.proofs.Common.{◌≡◌, ℕ, length, Some}
use Rattle.std.specs.Prelude.{slice_get}
use Rattle.points.specs.declared.table.Points.{Points}
use Rattle.points.specs.Working.Points.{ArePointsOf}
use Rattle.points.proofs.program.all_points.Given as goal

abbrev pub invariant-loop-section : goal.invariant-loop-section
invariant-loop-section l = record {
  long : length l.all.items ≡ l.section;
  each : (k : ℕ) (x : Points) → slice_get l.all.items k ≡ Some x → ArePointsOf l.program k x;
}
