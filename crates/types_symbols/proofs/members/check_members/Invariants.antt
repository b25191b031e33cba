use Rattle.std.proofs.Common.{◌≡◌, ◌≤◌, ◌+◌, [], take, drop, length}
use Rattle.std.specs.Prelude.{map}
use Rattle.syntax.specs.Views.{member_of}
use Rattle.resolution.specs.Scopes.{member_bears}
use Rattle.resolution.specs.Numbers.{fields_from}
use Rattle.resolution.specs.Working.Findings.{found_in}
use Rattle.resolution.specs.Working.FaultLists.{member_twice_faults}
use Rattle.types_symbols.specs.Working.Found.{IsTableOf, AreAhead}
use Rattle.types_symbols.specs.Working.Counted.{member_counts_from, no_members}
use Rattle.types_symbols.proofs.members.check_members.Given as goal

abbrev pub invariant-loop-place : goal.invariant-loop-place
invariant-loop-place l = record {
  table : IsTableOf member_bears (map member_of (take l.place l.members)) l.names;
  counts : AreAhead (member_counts_from no_members) (map member_of (take l.place l.members)) l.ahead.items l.counts;
  so_far : l.counts ≡ member_counts_from no_members (map member_of (take l.place l.members));
  len : length l.ahead.items ≡ l.place;
  width : l.width + fields_from (map member_of (take l.place l.members)) (map member_of (drop l.place l.members)) ≡ fields_from [] (map member_of l.members);
  few : l.width ≤ l.place;
  faults : found_in l.firsts (member_twice_faults (map member_of (take l.place l.members)) (map member_of (drop l.place l.members))) ≡ found_in l.fn.firsts (member_twice_faults [] (map member_of l.members));
}
