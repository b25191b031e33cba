use Rattle.std.proofs.Common.{take}
use Rattle.core_lang_helpers.specs.Working.Tables.{AddsCaller}
use Rattle.core_lang_helpers.proofs.callers.add_caller.Given as goal

abbrev pub invariant-loop-call : goal.invariant-loop-call
invariant-loop-call l = AddsCaller l.fn.rows.items l.rows.items l.from (take l.call-index l.calls)
