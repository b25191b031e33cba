use Rattle.std.proofs.Common.{◌≡◌, take}
use Rattle.std.specs.List.{flat_map}
use Rattle.source.specs.Mistakes.{least_of}
use Rattle.core_lang_helpers.specs.Graphs.{bodies_of}
use Rattle.core_lang_helpers.specs.Working.Knowledge.{bodies}
use Rattle.core_lang_helpers.specs.Working.FaultLists.{section_faults}
use Rattle.core_lang_helpers.proofs.graph_faults.Known.report_sections.Given as goal

abbrev pub invariant-loop-section : goal.invariant-loop-section
invariant-loop-section l = l.least ≡ least_of l.fn.least (flat_map (section_faults (bodies l.self)) (bodies_of (take l.section-index l.sections)))
