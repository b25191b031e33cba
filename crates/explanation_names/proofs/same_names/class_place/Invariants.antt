use Rattle.std.proofs.Common.{◌≡◌, drop, map}
use Rattle.syntax.specs.Views.{class_name_of}
use Rattle.resolution.specs.Scopes.{place_from, same_class}
use Rattle.explanation_names.proofs.same_names.class_place.Given as goal

abbrev pub invariant-loop-i : goal.invariant-loop-i
invariant-loop-i l =
    place_from (λ x. same_class x (class_name_of l.class)) l.i (map class_name_of (drop l.i l.classes)) ≡ place_from (λ x. same_class x (class_name_of l.class)) 0 (map class_name_of l.classes)
