-- Names in a list of references, and the first of those that are the same.
use Rattle.std.proofs.Common.{◌≡◌, ◌∙◌, ◌<◌, ℕ, List, take, length, Option, Some, refl, sym, ap, get_or, arith}
use Rattle.std.specs.Prelude.{slice_get}
use Rattle.std.specs.Option.{option_map}
use Rattle.std.proofs.lemmas.Option.{slice_get_read, slice_get-map, slice_get_within, same_Some}
use Rattle.std.proofs.lemmas.List.{length-take, length-map, take-map}
use denote.Ref.{Bor}
use Rattle.syntax.specs.declared.tree.Name.{Name}
use Rattle.syntax.specs.Trees.{Ident}
use Rattle.resolution.specs.Scopes.{place_of}
use Rattle.explanation_names.specs.NameSpaces.{ident_bears}
use Rattle.explanation_names.specs.Working.Values.{ident_at, idents}

pub named_at : (names : List (Bor Name)) (k : ℕ) (n : Bor Name) → n ≡ get_or names k n → k < length names →
    slice_get (idents names) k ≡ Some (ident_at n)
named_at names k n is lt = slice_get-map ident_at names k ∙ ap (option_map ident_at) (slice_get_read names (length names) k n refl lt is)

-- the name at a place, read in two ways
pub same_name : (names : List (Bor Name)) (k : ℕ) (n : Bor Name) (x : Ident) → n ≡ get_or names k n → k < length names →
    slice_get (idents names) k ≡ Some x → ident_at n ≡ x
same_name names k n x is lt at = same_Some (ident_at n) x (sym (named_at names k n is lt) ∙ at)

-- the first of the equal names before a place
pub found_ahead : (names : List (Bor Name)) (j : ℕ) (q text : List ℕ) (o : Option ℕ) →
    o ≡ place_of ident_bears (idents (take j names)) q → q ≡ text →
    place_of ident_bears (take j (idents names)) text ≡ o
found_ahead names j q text o e same =
    ap (λ (l : List Ident). place_of ident_bears l text) (take-map ident_at j names) ∙ ap (place_of ident_bears (idents (take j names))) (sym same) ∙ sym e

pub found_among : (names : List (Bor Name)) (q text : List ℕ) (o : Option ℕ) →
    o ≡ place_of ident_bears (idents names) q → q ≡ text →
    place_of ident_bears (idents names) text ≡ o
found_among names q text o e same = ap (place_of ident_bears (idents names)) (sym same) ∙ sym e

pub within_ahead : (names : List (Bor Name)) (i j : ℕ) → i < length (take j names) → j < length names → i < length names
within_ahead names i j lt more = omega (arith, length-take j names)

pub place_within : (names : List (Bor Name)) (k : ℕ) (x : Ident) → slice_get (idents names) k ≡ Some x →
    k < length names
place_within names k x at = omega (arith, slice_get_within (idents names) k x at, length-map names ident_at)
