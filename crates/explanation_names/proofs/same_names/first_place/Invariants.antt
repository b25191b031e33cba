use Rattle.std.proofs.Common.{◌≡◌, drop}
use Rattle.resolution.specs.Scopes.{place_from}
use Rattle.explanation_names.specs.NameSpaces.{ident_bears}
use Rattle.explanation_names.specs.Working.Values.{idents}
use Rattle.explanation_names.proofs.same_names.first_place.Given as goal

abbrev pub invariant-loop-i : goal.invariant-loop-i
invariant-loop-i l =
    place_from (λ x. ident_bears x l.text) l.i (idents (drop l.i l.names)) ≡ place_from (λ x. ident_bears x l.text) 0 (idents l.names)
