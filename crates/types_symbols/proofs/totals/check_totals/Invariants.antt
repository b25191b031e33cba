use Rattle.std.proofs.Common.{◌≡◌, [], take, drop, length}
use Rattle.resolution.specs.Working.Findings.{found_in}
use Rattle.resolution.specs.Working.FaultLists.{total_faults}
use Rattle.types_symbols.specs.Working.Found.{AreAhead}
use Rattle.types_symbols.specs.Working.Capped.{totals_of}
use Rattle.types_symbols.specs.Working.Views.{decls_of}
use Rattle.types_symbols.proofs.totals.check_totals.Given as goal

abbrev pub invariant-loop-place : goal.invariant-loop-place
invariant-loop-place l = record {
  counts : AreAhead (totals_of (decls_of l.decls)) (decls_of (take l.place l.items)) l.ahead.items l.totals;
  so_far : l.totals ≡ totals_of (decls_of l.decls) (decls_of (take l.place l.items));
  len : length l.ahead.items ≡ l.place;
  faults : found_in l.firsts (total_faults (decls_of l.decls) (decls_of (take l.place l.items)) (decls_of (drop l.place l.items))) ≡ found_in l.fn.firsts (total_faults (decls_of l.decls) [] (decls_of l.decls));
}
