use Rattle.std.proofs.Common.{◌≡◌, map, drop}
use Rattle.types_symbols.specs.Working.Views.{decls_of}
use Rattle.syntax.specs.Views.{decl_of}
use Rattle.explanation_names.specs.FirstBy.{first_by}
use Rattle.explanation_names.specs.Working.PassedFound.{met_of}
use Rattle.explanation_names.proofs.passed_members.passed_member.Given as goal

abbrev pub invariant-loop-place : goal.invariant-loop-place
invariant-loop-place l =
    first_by (met_of l.sought (decls_of l.symbols)) (map decl_of (drop l.place l.decls)) ≡ first_by (met_of l.sought (decls_of l.symbols)) (decls_of l.symbols)
