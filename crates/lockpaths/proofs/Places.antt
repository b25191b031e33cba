-- The item at an index of a list with one more item.
use Rattle.std.proofs.Common.{◌≡◌, ◌⊎◌, inl, inr, ℕ, zero, suc, List, [], ◌∷◌, ◌++◌, length, Some, refl, sym, ap}
use Rattle.std.specs.Prelude.{slice_get}
use Rattle.std.proofs.lemmas.Option.{none-some, same_Some}

pub stood_or_last : {A : Type 0} (xs : List A) (y : A) (k : ℕ) (x : A) → slice_get (xs ++ y ∷ []) k ≡ Some x →
    (slice_get xs k ≡ Some x) ⊎ ((k ≡ length xs) × (x ≡ y))
stood_or_last [] y zero x h = inr (refl, sym (same_Some y x h))
stood_or_last [] y (suc k) x h = absurd (none-some x h)
stood_or_last (z ∷ xs) y zero x h = inl h
stood_or_last (z ∷ xs) y (suc k) x h = elim (stood_or_last xs y k x h) [
  | inl e ↦ inl e
  | inr e ↦ inr (ap suc e.0, e.1)
]
