use Rattle.std.proofs.Common.{take}
use Rattle.core_lang_helpers.specs.Depths.{CallsOnly}
use Rattle.core_lang_helpers.specs.Working.Tables.{IsSettled}
use Rattle.core_lang_helpers.proofs.settling.first_open.Given as goal

abbrev pub invariant-loop-at : goal.invariant-loop-at
invariant-loop-at l = CallsOnly (IsSettled l.table) (take l.at l.calls)
