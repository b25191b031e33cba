use Rattle.std.proofs.Common.{◌≡◌, ◌<◌, ℕ, take, map, Some, None}
use Rattle.std.specs.Prelude.{slice_get}
use Rattle.syntax.specs.Trees.{ClassName}
use Rattle.syntax.specs.Views.{class_name_of}
use Rattle.resolution.specs.Scopes.{place_of, same_class}
use Rattle.explanation_names.proofs.same_names.first_of_classes.Given as goal

-- no class so far that starts there has an equal one before it
abbrev pub invariant-loop-j : goal.invariant-loop-j
invariant-loop-j l =
    (k : ℕ) → k < l.j → (x : ClassName) → slice_get (map class_name_of l.classes) k ≡ Some x → x.structure.span.start ≡ l.at → place_of same_class (take k (map class_name_of l.classes)) x ≡ None
