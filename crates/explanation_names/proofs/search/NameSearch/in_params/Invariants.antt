use Rattle.std.proofs.Common.{drop, map}
use Rattle.std.specs.List.{flat_map}
use Rattle.syntax.specs.Views.{param_of}
use Rattle.explanation_names.specs.Working.UsesFound.{uses_of_param}
use Rattle.explanation_names.specs.Working.Values.{locals_at}
use Rattle.explanation_names.proofs.Added.{Tells}
use Rattle.explanation_names.proofs.search.NameSearch.in_params.Given as goal

abbrev pub invariant-loop-param : goal.invariant-loop-param
invariant-loop-param l =
    Tells l.self l.initial.found l.found (flat_map (uses_of_param (locals_at l.self)) (map param_of (drop l.param-index l.params))) (flat_map (uses_of_param (locals_at l.self)) (map param_of l.params))
