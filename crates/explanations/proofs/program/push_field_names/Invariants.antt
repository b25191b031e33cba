use Rattle.std.proofs.Common.{◌≡◌, ◌++◌, drop}
use Rattle.explanations.specs.Working.Values.{field_names_of, idents}
use Rattle.explanations.proofs.program.push_field_names.Given as goal

abbrev pub invariant-loop-member : goal.invariant-loop-member
invariant-loop-member l =
    idents l.out.items ++ field_names_of (drop l.member-index l.members) ≡ idents l.initial.out.items ++ field_names_of l.members
