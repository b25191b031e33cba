use Rattle.std.proofs.Common.{◌≡◌, ◌++◌, drop}
use Rattle.explanation_names.specs.Working.Values.{idents}
use Rattle.explanation_names.specs.Working.Viewed.{member_names}
use Rattle.explanation_names.proofs.name_spaces.push_members.Given as goal

abbrev pub invariant-loop-member : goal.invariant-loop-member
invariant-loop-member l =
    idents l.names.items ++ member_names (drop l.member-index l.members) ≡ idents l.initial.names.items ++ member_names l.members
