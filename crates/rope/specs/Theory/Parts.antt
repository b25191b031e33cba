-- The parts of a group, and texts that grow by one after another.
use Rattle.std.proofs.Common.{◌≡◌, ◌∙◌, ◌+◌, ◌<◌, ◌∷◌, ◌++◌, ℕ, zero, suc, List, [], Some, get_or, length, map}
use Rattle.std.proofs.Common.{slice_get, take, take-suc, add-one, append_assoc, refl, sym, ap}
use Rattle.std.specs.Prelude.{slice_index_or}
use Rattle.std.specs.Option.{option_map_or}
use Rattle.std.specs.List.{flat_map}
use Rattle.std.proofs.lemmas.Grind.{flat_map-append}
use Rattle.std.proofs.lemmas.List.{append-nil}
use Rattle.rope.specs.Working.Ropes.{part_of}

-- a part of a group that has the texts of a list
text_at : {A : Type 0} (text : A → List ℕ) (xs : List A) (k : ℕ) →
    slice_index_or (map text xs) k [] ≡ option_map_or text (slice_get xs k) []
text_at text [] k = refl
text_at text (x ∷ xs) zero = refl
text_at text (x ∷ xs) (suc k) = text_at text xs k

pub part_is : {A : Type 0} (text : A → List ℕ) (xs : List A) (groups : List (List (List ℕ))) (group k : ℕ) →
    slice_get groups group ≡ Some (map text xs) →
    part_of groups group k ≡ option_map_or text (slice_get xs k) []
part_is text xs groups group k is =
    ap (λ o. option_map_or (λ (parts : List (List ℕ)). slice_index_or parts k []) o []) is ∙ text_at text xs k

-- the texts of one more item
pub one_more : {A : Type 0} (text : A → List ℕ) (xs : List A) (i : ℕ) (x : A) → i < length xs → x ≡ get_or xs i x
    → flat_map text (take (i + 1) xs) ≡ flat_map text (take i xs) ++ text x
one_more text xs i x lt is =
    ap (λ (k : ℕ). flat_map text (take k xs)) (add-one i)
    ∙ ap (flat_map text) (take-suc xs i x lt)
    ∙ ap (λ y. flat_map text (take i xs ++ y ∷ [])) (sym is)
    ∙ flat_map-append text (take i xs) (x ∷ [])
    ∙ ap (λ (t : List ℕ). flat_map text (take i xs) ++ t) (append-nil (text x))

-- the texts of one more item, appended in two pieces
pub two_more : {A : Type 0} (text : A → List ℕ) (xs : List A) (i : ℕ) (x : A) (start old mid new a b : List ℕ) →
    i < length xs → x ≡ get_or xs i x
    → old ≡ start ++ flat_map text (take i xs) → mid ≡ old ++ a → new ≡ mid ++ b → a ++ b ≡ text x
    → new ≡ start ++ flat_map text (take (i + 1) xs)
two_more text xs i x start old mid new a b lt is before first second same =
    second ∙ ap (λ (m : List ℕ). m ++ b) first ∙ append_assoc old a b ∙ ap (λ (t : List ℕ). old ++ t) same
    ∙ ap (λ (o : List ℕ). o ++ text x) before ∙ append_assoc start (flat_map text (take i xs)) (text x)
    ∙ ap (λ (t : List ℕ). start ++ t) (sym (one_more text xs i x lt is))
