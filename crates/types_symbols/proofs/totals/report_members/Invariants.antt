use Rattle.std.proofs.Common.{◌≡◌, ◌≤◌, ◌+◌, drop}
use Rattle.std.specs.Prelude.{map}
use Rattle.syntax.specs.Views.{member_of}
use Rattle.resolution.specs.Limits.{CLASS_LIMIT}
use Rattle.resolution.specs.Working.Findings.{found_in}
use Rattle.resolution.specs.Working.FaultLists.{member_counts}
use Rattle.types_symbols.proofs.totals.report_members.Given as goal

abbrev pub invariant-loop-place : goal.invariant-loop-place
invariant-loop-place l = record {
  faults : found_in l.firsts (member_counts l.classes l.place (map member_of (drop l.place l.members))) ≡ found_in l.fn.firsts (member_counts l.fn.classes 0 (map member_of l.members));
  few : l.classes ≤ CLASS_LIMIT + 1 + l.place;
}
