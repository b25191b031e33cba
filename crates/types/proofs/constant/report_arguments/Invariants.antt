use Rattle.std.proofs.Common.{◌≡◌, drop}
use Rattle.std.specs.Prelude.{map}
use Rattle.syntax.specs.Views.{param_of, const_of}
use Rattle.resolution.specs.Working.Findings.{found_in}
use Rattle.resolution.specs.Working.FaultLists.{argument_faults}
use Rattle.types_symbols.specs.Working.Views.{decls_of}
use Rattle.types.proofs.constant.report_arguments.Given as goal

abbrev pub invariant-loop-i : goal.invariant-loop-i
invariant-loop-i l = record {
  faults : found_in l.firsts (argument_faults (decls_of l.symbols) (map param_of (drop l.i l.params)) (map const_of (drop l.i l.constants))) ≡ found_in l.fn.firsts (argument_faults (decls_of l.symbols) (map param_of l.params) (map const_of l.constants));
}
