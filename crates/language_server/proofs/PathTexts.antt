-- Lists of lock paths as texts.
use Rattle.std.proofs.Common.{◌≡◌, ◌∙◌, ℕ, zero, suc, ◌+◌, ◌<◌, List, [], ◌∷◌, ◌++◌, Option, Some, None, get_or, map, length, take, take-suc, add-one, append_assoc, append-nil, refl, sym, ap, String, Global, string_bytes}
use Rattle.std.specs.Prelude.{codes, slice_get}
use Rattle.std.specs.List.{flat_map}
use Rattle.std.specs.Borrow.{Bor}
use Rattle.std.specs.Option.{option_map_or, option_copied}
use Rattle.std.specs.Slice.{IsItemAt}
use Rattle.std.proofs.lemmas.Option.{slice_get_past, slice_get_read}
use Rattle.std.proofs.lemmas.List.Concat.{flat_map-append}

-- the item that a look-up at an index gives
pub copied : {X : Type 0} (xs : List X) (i : ℕ) (found : Option (Bor X)) → IsItemAt xs i found → option_copied found ≡ slice_get xs i
copied xs i None is = sym (slice_get_past xs i is.3)
copied xs i (Some x) is = sym (slice_get_read xs (length xs) i x.now refl is.3.0 is.1)

at_map : {A : Type 0} (text : A → List ℕ) (xs : List A) (k : ℕ) →
    option_map_or (λ (t : List ℕ). t) (slice_get (map text xs) k) [] ≡ option_map_or text (slice_get xs k) []
at_map text [] k = refl
at_map text (x ∷ xs) zero = refl
at_map text (x ∷ xs) (suc k) = at_map text xs k

-- texts that were made by two functions are equal at each index if the lists are
pub text_here : {A : Type 0} (text : A → List ℕ) (xs : List A) (names : List (String Global)) (k : ℕ) →
    map string_bytes names ≡ map text xs → option_map_or string_bytes (slice_get names k) [] ≡ option_map_or text (slice_get xs k) []
text_here text xs names k same =
    sym (at_map string_bytes names k) ∙ ap (λ (l : List (List ℕ)). option_map_or (λ (t : List ℕ). t) (slice_get l k) []) same ∙ at_map text xs k

-- one more text, in two pieces
pub one_more : (text : ℕ → List ℕ) (list : List ℕ) (i k : ℕ) (start old mid new : List ℕ) → i < length list → k ≡ get_or list i 0 →
    old ≡ start ++ flat_map (λ n. codes " " ++ text n) (take i list) → mid ≡ old ++ codes " " → new ≡ mid ++ text k →
    new ≡ start ++ flat_map (λ n. codes " " ++ text n) (take (i + 1) list)
one_more text list i k start old mid new within is before first second =
    let f = λ (n : ℕ). codes " " ++ text n in
    second ∙ ap (λ (m : List ℕ). m ++ text k) first ∙ append_assoc old (codes " ") (text k) ∙ ap (λ (o : List ℕ). o ++ f k) before
    ∙ append_assoc start (flat_map f (take i list)) (f k)
    ∙ ap (λ (t : List ℕ). start ++ t)
    (ap (λ (t : List ℕ). flat_map f (take i list) ++ t) (sym (append-nil (f k)))
    ∙ sym (flat_map-append f (take i list) (k ∷ []))
    ∙ ap (λ (n : ℕ). flat_map f (take i list ++ n ∷ [])) is
    ∙ ap (flat_map f) (sym (take-suc list i 0 within))
    ∙ ap (λ (n : ℕ). flat_map f (take n list)) (sym (add-one i)))
