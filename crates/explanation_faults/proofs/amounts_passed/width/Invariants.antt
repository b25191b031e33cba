use Rattle.std.proofs.Common.{◌≡◌, ◌≤◌, ◌+◌, [], take, drop, map}
use Rattle.resolution.specs.Numbers.{fields_from}
use Rattle.types_symbols.specs.Working.Views.{members_seen}
use Rattle.syntax.specs.Views.{member_of}
use Rattle.explanation_faults.proofs.amounts_passed.width.Given as goal

abbrev pub invariant-loop-place : goal.invariant-loop-place
invariant-loop-place l = record {
  width : l.width + fields_from (map member_of (take l.place l.member-items)) (map member_of (drop l.place l.member-items))
      ≡ fields_from [] (members_seen l.structure);
  few : l.width ≤ l.place;
}
