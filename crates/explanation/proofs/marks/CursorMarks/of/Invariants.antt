use Rattle.std.proofs.Common.{◌≡◌}
use Rattle.explanation.specs.Working.Marks.{AreOf}
use Rattle.explanation.proofs.marks.CursorMarks.of.Given as goal

abbrev pub invariant-loop-number : goal.invariant-loop-number
invariant-loop-number l = record { same : l.cursor.text.now ≡ l.text; marks : AreOf l.text l.each.items }
