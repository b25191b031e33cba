use Rattle.std.proofs.Common.{◌≡◌}
use Rattle.lsp_texts.specs.Working.Marks.{AreOf}
use Rattle.lsp_texts.proofs.marks.PositionMarks.of.Given as goal

abbrev pub invariant-loop-number : goal.invariant-loop-number
invariant-loop-number l = record { same : l.walker.text.now ≡ l.text; marks : AreOf l.text l.each.items }
