use Rattle.std.proofs.Common.{drop, map}
use Rattle.std.specs.List.{flat_map}
use Rattle.syntax.specs.Views.{const_of}
use Rattle.explanation_names.specs.Working.UsesFound.{uses_of_const}
use Rattle.explanation_names.specs.Working.Values.{locals_at}
use Rattle.explanation_names.proofs.Added.{Tells}
use Rattle.explanation_names.proofs.search.NameSearch.in_consts.Given as goal

abbrev pub invariant-loop-c : goal.invariant-loop-c
invariant-loop-c l =
    Tells l.self l.initial.found l.found (flat_map (uses_of_const (locals_at l.self)) (map const_of (drop l.c-index l.constants))) (flat_map (uses_of_const (locals_at l.self)) (map const_of l.constants))
