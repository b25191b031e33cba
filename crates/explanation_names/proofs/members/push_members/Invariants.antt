use Rattle.std.proofs.Common.{drop, map}
use Rattle.std.specs.List.{filter_map}
use Rattle.syntax.specs.Views.{member_of}
use Rattle.explanation_names.specs.Members.{name_as}
use Rattle.explanation_names.proofs.Added.{Leads}
use Rattle.explanation_names.proofs.members.push_members.Given as goal

abbrev pub invariant-loop-member : goal.invariant-loop-member
invariant-loop-member l =
    Leads l.initial.found l.found (filter_map (name_as l.role) (map member_of (drop l.member-index l.members))) (filter_map (name_as l.role) (map member_of l.members))
