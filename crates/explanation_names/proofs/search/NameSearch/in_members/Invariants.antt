use Rattle.std.proofs.Common.{drop, map}
use Rattle.std.specs.List.{flat_map}
use Rattle.syntax.specs.Views.{ident, member_of}
use Rattle.explanation_names.specs.Working.UsesFound.{uses_of_member}
use Rattle.explanation_names.specs.Working.Values.{locals_at}
use Rattle.explanation_names.proofs.Added.{Tells}
use Rattle.explanation_names.proofs.search.NameSearch.in_members.Given as goal

abbrev pub invariant-loop-member : goal.invariant-loop-member
invariant-loop-member l =
    Tells l.self l.initial.found l.found (flat_map (uses_of_member (locals_at l.self) (ident l.structure)) (map member_of (drop l.member-index l.members))) (flat_map (uses_of_member (locals_at l.self) (ident l.structure)) (map member_of l.members))
