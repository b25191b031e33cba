-- Lists that a loop maps item by item.
use Rattle.std.proofs.Common.{◌≡◌, ℕ, ◌+◌, ◌<◌, ◌≤◌, List, [], ◌∷◌, ◌++◌, length, map, take, get_or, sym, ap, ◌∙◌}
use Rattle.std.proofs.Common.{add-one}
use Rattle.std.proofs.Math.Seq.{take-suc}
use Rattle.std.proofs.lemmas.List.{map-append, take_all}

-- an item more
pub map_more : {A B : Type 0} (f : A → B) (xs : List A) (i : ℕ) (x none : A) (ys more : List B) →
    x ≡ get_or xs i none → i < length xs → ys ≡ map f (take i xs) →
    more ≡ ys ++ f x ∷ [] → more ≡ map f (take (i + 1) xs)
map_more f xs i x none ys more is h before push =
    let taken : take (i + 1) xs ≡ take i xs ++ get_or xs i none ∷ [] = rw (add-one, take-suc xs i none) in
    push ∙ ap (λ l. l ++ f x ∷ []) before ∙ sym (map-append f (take i xs) (x ∷ [])) ∙ ap (λ y. map f (take i xs ++ y ∷ [])) is
    ∙ ap (map f) (sym taken)

-- all of them
pub map_all : {A B : Type 0} (f : A → B) (xs : List A) (i : ℕ) (ys : List B) → length xs ≤ i →
    ys ≡ map f (take i xs) → ys ≡ map f xs
map_all f xs i ys h all = all ∙ ap (map f) (take_all i xs h)
