-- One value more in a list of answers.
use Rattle.std.proofs.Common.{◌≡◌, ◌∙◌, ℕ, ◌+◌, ◌<◌, ◌≤◌, List, [], ◌∷◌, ◌++◌, length, map, take, get_or, sym, ap, add-one}
use Rattle.std.proofs.lemmas.List.{map-append, take_all}
use Rattle.std.proofs.Math.Seq.{take-suc}
use Rattle.serde_json.specs.Data.{Data, array}
use Rattle.serde_json.specs.View.{items_of, view}
use Rattle.serde_json.specs.declared.value.Value.{Value}

pub one_told : (f : ℕ → Data) (found : List ℕ) (i : ℕ) (values new : List Value) (told : Value) → i < length found →
    map view values ≡ map f (take i found) → view told ≡ f (get_or found i 0) → new ≡ values ++ told ∷ [] → map view new ≡ map f (take (i + 1) found)
one_told f found i values new told below were is pushed =
    ap (map view) pushed ∙ map-append view values (told ∷ []) ∙ ap (λ l. l ++ view told ∷ []) were ∙ ap (λ d. map f (take i found) ++ d ∷ []) is
    ∙ sym (map-append f (take i found) (get_or found i 0 ∷ [])) ∙ ap (map f) (sym (take-suc found i 0 below))
    ∙ ap (λ k. map f (take k found)) (sym (add-one i))

pub all_told : (f : ℕ → Data) (found : List ℕ) (i : ℕ) (values : List Value) → length found ≤ i → map view values ≡ map f (take i found) →
    array (items_of (map view values)) ≡ array (items_of (map f found))
all_told f found i values past were = ap (λ l. array (items_of l)) (were ∙ ap (map f) (take_all i found past))
