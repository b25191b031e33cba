use Rattle.std.proofs.Common.{◌≡◌, length}
use Rattle.report_check.specs.Working.Positions.{ArePositionsOf}
use Rattle.report_check.proofs.positions.Positions.of.Given as goal

abbrev pub invariant-loop-at : goal.invariant-loop-at
invariant-loop-at l = record {
  same : l.cursor.text.now ≡ l.text;
  long : length l.each.items ≡ l.at;
  positions : ArePositionsOf l.text l.each.items;
}
