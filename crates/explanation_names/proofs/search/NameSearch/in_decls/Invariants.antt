use Rattle.std.proofs.Common.{drop, map}
use Rattle.std.specs.List.{flat_map}
use Rattle.syntax.specs.Views.{decl_of}
use Rattle.explanation_names.specs.Working.UsesFound.{uses_of_decl}
use Rattle.explanation_names.specs.Working.Values.{locals_at}
use Rattle.explanation_names.proofs.Added.{Tells}
use Rattle.explanation_names.proofs.search.NameSearch.in_decls.Given as goal

abbrev pub invariant-loop-decl : goal.invariant-loop-decl
invariant-loop-decl l =
    Tells l.self l.initial.found l.found (flat_map (uses_of_decl (locals_at l.self)) (map decl_of (drop l.decl-index l.decls))) (flat_map (uses_of_decl (locals_at l.self)) (map decl_of l.decls))
