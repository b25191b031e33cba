use Rattle.std.proofs.Common.{◌≡◌, ◌<◌, ℕ, Some, None}
use Rattle.std.specs.Prelude.{slice_get}
use Rattle.syntax.specs.Trees.{Ident}
use Rattle.resolution.specs.Scopes.{place_of}
use Rattle.explanation_names.specs.NameSpaces.{ident_bears}
use Rattle.explanation_names.specs.Working.Values.{idents}
use Rattle.explanation_names.proofs.same_names.first_of_others.Given as goal

-- no name so far that starts at this place is among the others
abbrev pub invariant-loop-name : goal.invariant-loop-name
invariant-loop-name l =
    (k : ℕ) → k < l.name-index → (x : Ident) → slice_get (idents l.names) k ≡ Some x → x.span.start ≡ l.at → place_of ident_bears (idents l.others) x.text ≡ None
