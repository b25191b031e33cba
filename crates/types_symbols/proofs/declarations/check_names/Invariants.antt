use Rattle.std.proofs.Common.{◌≡◌, [], take, drop, length}
use Rattle.resolution.specs.Scopes.{bears}
use Rattle.resolution.specs.Working.Findings.{found_in}
use Rattle.resolution.specs.Working.FaultLists.{twice_faults}
use Rattle.types_symbols.specs.Working.Found.{IsTableOf, AreAhead}
use Rattle.types_symbols.specs.Working.Counted.{counts_from, no_counts}
use Rattle.types_symbols.specs.Working.Views.{decls_of}
use Rattle.types_symbols.proofs.declarations.check_names.Given as goal

abbrev pub invariant-loop-place : goal.invariant-loop-place
invariant-loop-place l = record {
  table : IsTableOf bears (decls_of (take l.place l.decls)) l.names;
  counts : AreAhead (counts_from no_counts) (decls_of (take l.place l.decls)) l.ahead.items l.counts;
  so_far : l.counts ≡ counts_from no_counts (decls_of (take l.place l.decls));
  len : length l.ahead.items ≡ l.place;
  faults : found_in l.firsts (twice_faults (decls_of (take l.place l.decls)) (decls_of (drop l.place l.decls))) ≡ found_in l.fn.firsts (twice_faults [] (decls_of l.decls));
}
