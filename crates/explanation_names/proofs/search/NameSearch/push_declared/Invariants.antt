use Rattle.std.proofs.Common.{drop, map}
use Rattle.std.specs.List.{filter_map}
use Rattle.syntax.specs.Views.{decl_of}
use Rattle.explanation_names.specs.Working.Found.{declared_as}
use Rattle.explanation_names.proofs.Added.{Leads}
use Rattle.explanation_names.proofs.search.NameSearch.push_declared.Given as goal

abbrev pub invariant-loop-decl : goal.invariant-loop-decl
invariant-loop-decl l =
    Leads l.initial.found l.found (filter_map (declared_as l.sought) (map decl_of (drop l.decl-index l.decl-items))) (filter_map (declared_as l.sought) (map decl_of l.decl-items))
