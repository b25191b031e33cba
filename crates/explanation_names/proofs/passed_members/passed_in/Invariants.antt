use Rattle.std.proofs.Common.{◌≡◌, map, drop}
use Rattle.types_symbols.specs.Working.Views.{decls_of, members_seen}
use Rattle.syntax.specs.Views.{member_of}
use Rattle.explanation_names.specs.FirstBy.{first_by}
use Rattle.explanation_names.specs.Working.PassedFound.{met_for}
use Rattle.explanation_names.proofs.passed_members.passed_in.Given as goal

abbrev pub invariant-loop-member : goal.invariant-loop-member
invariant-loop-member l =
    first_by (met_for l.sought (decls_of l.symbols) (members_seen l.structure)) (map member_of (drop l.member-index l.structure.members.items))
    ≡ first_by (met_for l.sought (decls_of l.symbols) (members_seen l.structure)) (members_seen l.structure)
