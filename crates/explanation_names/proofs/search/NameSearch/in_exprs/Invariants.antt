use Rattle.std.proofs.Common.{drop, map}
use Rattle.std.specs.List.{flat_map}
use Rattle.syntax.specs.Views.{expr_of}
use Rattle.explanation_names.specs.Working.UsesFound.{uses_in}
use Rattle.explanation_names.specs.Working.Values.{locals_at}
use Rattle.explanation_names.proofs.Added.{Tells}
use Rattle.explanation_names.proofs.search.NameSearch.in_exprs.Given as goal

abbrev pub invariant-loop-e : goal.invariant-loop-e
invariant-loop-e l =
    Tells l.self l.initial.found l.found (flat_map (uses_in (locals_at l.self)) (map expr_of (drop l.e-index l.exprs))) (flat_map (uses_in (locals_at l.self)) (map expr_of l.exprs))
