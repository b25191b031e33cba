use Rattle.std.proofs.Common.{◌≡◌, ◌++◌, drop}
use Rattle.explanations.specs.Working.Values.{classes_for_members}
use Rattle.explanations.proofs.protecting.push_for_all.Given as goal

abbrev pub invariant-loop-member : goal.invariant-loop-member
invariant-loop-member l =
    l.classes.items ++ classes_for_members l.annotations (drop l.member-index l.members) ≡ l.initial.classes.items ++ classes_for_members l.annotations l.members
