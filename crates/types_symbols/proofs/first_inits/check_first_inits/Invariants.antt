use Rattle.std.proofs.Common.{◌≡◌, [], take, drop}
use Rattle.resolution.specs.Working.Findings.{found_in}
use Rattle.resolution.specs.Working.FaultLists.{repeated_faults}
use Rattle.types_symbols.specs.Working.Given.{IsInitTargetTable}
use Rattle.types_symbols.specs.Working.Views.{decls_of}
use Rattle.types_symbols.proofs.first_inits.check_first_inits.Given as goal

abbrev pub invariant-loop-place : goal.invariant-loop-place
invariant-loop-place l = record {
  table : IsInitTargetTable (decls_of l.decls) (decls_of (take l.place l.items)) l.first_inits;
  faults : found_in l.firsts (repeated_faults (decls_of l.decls) (decls_of (take l.place l.items)) (decls_of (drop l.place l.items))) ≡ found_in l.fn.firsts (repeated_faults (decls_of l.decls) [] (decls_of l.decls));
}
