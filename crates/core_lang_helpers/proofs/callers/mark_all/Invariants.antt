use Rattle.std.proofs.Common.{take}
use Rattle.core_lang_helpers.specs.Working.Tables.{Marks}
use Rattle.core_lang_helpers.proofs.callers.mark_all.Given as goal

abbrev pub invariant-loop-helper : goal.invariant-loop-helper
invariant-loop-helper l = Marks (take l.helper-index l.row) l.fn.marks.items l.marks.items l.fn.pending.items l.pending.items
