use Rattle.std.proofs.Common.{◌≡◌, [], take, drop}
use Rattle.std.specs.Prelude.{map}
use Rattle.syntax.specs.Views.{class_name_of}
use Rattle.resolution.specs.Working.Findings.{found_in}
use Rattle.resolution.specs.Working.FaultLists.{listed_faults}
use Rattle.types_symbols.specs.Working.Listed.{IsListOf}
use Rattle.types_symbols.specs.Working.Views.{decls_of}
use Rattle.types_symbols.proofs.listed.report_listed.Given as goal

abbrev pub invariant-loop-class : goal.invariant-loop-class
invariant-loop-class l = record {
  before : IsListOf (map class_name_of (take l.class-index l.listed)) l.before;
  faults : found_in l.firsts (listed_faults (decls_of l.symbols) (map class_name_of (take l.class-index l.listed)) (map class_name_of (drop l.class-index l.listed))) ≡ found_in l.fn.firsts (listed_faults (decls_of l.symbols) [] (map class_name_of l.listed));
}
