use Rattle.std.proofs.Common.{◌≡◌, drop}
use Rattle.resolution.specs.Working.Building.{resolved_from}
use Rattle.resolution.specs.Working.Findings.{found_in}
use Rattle.resolution.specs.Working.FaultLists.{each_faults}
use Rattle.types_symbols.specs.Working.Views.{decls_of}
use Rattle.types.specs.Working.Grown.{built}
use Rattle.types.proofs.program.Judge.check_decls.Given as goal

abbrev pub invariant-loop-place : goal.invariant-loop-place
invariant-loop-place l = record {
  value : resolved_from (decls_of l.self.builder.symbols.now) l.place (built l.grown) (decls_of (drop l.place l.items)) ≡ resolved_from (decls_of l.self.builder.symbols.now) 0 (built l.fn.grown) (decls_of l.self.builder.symbols.now);
  faults : found_in l.firsts (each_faults (decls_of l.self.builder.symbols.now) l.place (decls_of (drop l.place l.items))) ≡ found_in l.fn.firsts (each_faults (decls_of l.self.builder.symbols.now) 0 (decls_of l.self.builder.symbols.now));
}
