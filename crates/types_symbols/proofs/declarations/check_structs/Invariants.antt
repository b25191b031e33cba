use Rattle.std.proofs.Common.{◌≡◌, take, drop}
use Rattle.resolution.specs.Working.Findings.{found_in}
use Rattle.resolution.specs.Working.FaultLists.{struct_faults}
use Rattle.types_symbols.specs.Working.Views.{decls_of, AreStructures}
use Rattle.types_symbols.proofs.declarations.check_structs.Given as goal

abbrev pub invariant-loop-d : goal.invariant-loop-d
invariant-loop-d l = record {
  structs : AreStructures (decls_of (take l.d-index l.decls)) l.structs.items;
  faults : found_in l.firsts (struct_faults (decls_of (drop l.d-index l.decls))) ≡ found_in l.fn.firsts (struct_faults (decls_of l.decls));
}
