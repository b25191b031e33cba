-- Places of lists.
use Rattle.std.proofs.Common.{◌≡◌, ◌⊎◌, ℕ, zero, suc, List, [], ◌∷◌, ◌++◌, length, Some, slice_get, set, refl, ap, inl}
use Rattle.std.proofs.Common.{inr}

pub get_set_same : {X : Type 0} (xs : List X) (i : ℕ) (x y : X) → slice_get xs i ≡ Some x →
    slice_get (set xs i y) i ≡ Some y
get_set_same [] i x y h = absurd cc
get_set_same (z ∷ xs) zero x y h = refl
get_set_same (z ∷ xs) (suc i) x y h = get_set_same xs i x y h

-- the item at the place that was set
pub get_set_is : {X : Type 0} (xs : List X) (i : ℕ) (y z : X) → slice_get (set xs i y) i ≡ Some z → y ≡ z
get_set_is [] i y z h = absurd cc
get_set_is (x ∷ xs) zero y z h = cc
get_set_is (x ∷ xs) (suc i) y z h = get_set_is xs i y z h

-- the item at an index after one more item is appended
pub get_push : {X : Type 0} (xs : List X) (x y : X) (i : ℕ) → slice_get (xs ++ x ∷ []) i ≡ Some y →
    (slice_get xs i ≡ Some y) ⊎ ((x ≡ y) × (length xs ≡ i))
get_push [] x y zero h = inr (cc, refl)
get_push [] x y (suc i) h = absurd cc
get_push (z ∷ xs) x y zero h = inl h
get_push (z ∷ xs) x y (suc i) h = elim (get_push xs x y i h) [
  | inl e ↦ inl e
  | inr e ↦ inr (e.0, ap suc e.1)
]
