use Rattle.std.proofs.Common.{drop, map}
use Rattle.std.specs.List.{flat_map}
use Rattle.syntax.specs.Views.{class_name_of}
use Rattle.explanation_names.specs.Working.UsesFound.{uses_of_class}
use Rattle.explanation_names.specs.Working.Values.{locals_at}
use Rattle.explanation_names.proofs.Added.{Tells}
use Rattle.explanation_names.proofs.search.NameSearch.in_classes.Given as goal

abbrev pub invariant-loop-class : goal.invariant-loop-class
invariant-loop-class l =
    Tells l.self l.initial.found l.found (flat_map (uses_of_class (locals_at l.self)) (map class_name_of (drop l.class-index l.classes))) (flat_map (uses_of_class (locals_at l.self)) (map class_name_of l.classes))
