use Rattle.std.proofs.Common.{◌≡◌, false, take}
use Rattle.core_lang_helpers.specs.Working.FaultLists.{any_new}
use Rattle.core_lang_helpers.proofs.graph_faults.any_is_new.Given as goal

abbrev pub invariant-loop-call : goal.invariant-loop-call
invariant-loop-call l = any_new l.least (take l.call-index l.calls) ≡ false
