use Rattle.std.proofs.Common.{◌≡◌, take}
use Rattle.std.specs.List.{flat_map}
use Rattle.source.specs.Mistakes.{least_of}
use Rattle.core_lang_helpers.specs.Working.FaultLists.{marked_faults}
use Rattle.core_lang_helpers.proofs.graph_faults.report_marked.Given as goal

abbrev pub invariant-loop-call : goal.invariant-loop-call
invariant-loop-call l = l.least ≡ least_of l.fn.least (flat_map (marked_faults l.marks) (take l.call-index l.calls))
