use Rattle.std.proofs.Common.{◌≡◌, ◌<◌, ℕ, take, Some, None}
use Rattle.std.specs.Prelude.{slice_get}
use Rattle.syntax.specs.Trees.{Ident}
use Rattle.resolution.specs.Scopes.{place_of}
use Rattle.explanation_names.specs.NameSpaces.{ident_bears}
use Rattle.explanation_names.specs.Working.Values.{idents}
use Rattle.explanation_names.proofs.same_names.first_of_same.Given as goal

-- no name so far that starts at this place repeats an earlier one
abbrev pub invariant-loop-j : goal.invariant-loop-j
invariant-loop-j l =
    (k : ℕ) → k < l.j → (x : Ident) → slice_get (idents l.names) k ≡ Some x → x.span.start ≡ l.at → place_of ident_bears (take k (idents l.names)) x.text ≡ None
