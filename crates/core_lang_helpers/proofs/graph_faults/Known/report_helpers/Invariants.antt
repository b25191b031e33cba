use Rattle.std.proofs.Common.{◌≡◌, take}
use Rattle.source.specs.Mistakes.{least_of}
use Rattle.core_lang_helpers.specs.Graphs.{bodies_of}
use Rattle.core_lang_helpers.specs.Working.Knowledge.{bodies}
use Rattle.core_lang_helpers.specs.Working.FaultLists.{helpers_faults}
use Rattle.core_lang_helpers.proofs.graph_faults.Known.report_helpers.Given as goal

abbrev pub invariant-loop-number : goal.invariant-loop-number
invariant-loop-number l = l.least ≡ least_of l.fn.least (helpers_faults (bodies l.self) 0 (bodies_of (take l.number l.self.callers.helpers.now)))
