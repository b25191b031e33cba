use Rattle.std.proofs.Common.{◌≡◌, drop}
use Rattle.syntax.specs.Views.{items_of}
use Rattle.resolution.specs.Working.Findings.{found_in}
use Rattle.resolution.specs.Working.FaultLists.{items_faults}
use Rattle.types_symbols.specs.Working.Views.{decls_of}
use Rattle.types.proofs.thread.+faults.Given as goal

abbrev pub invariant-report_items-loop-item : goal.invariant-report_items-loop-item
invariant-report_items-loop-item l = record {
  faults : found_in l.firsts (items_faults (decls_of l.symbols) (items_of (drop l.item-index l.items))) ≡ found_in l.fn.firsts (items_faults (decls_of l.symbols) (items_of l.items));
}
