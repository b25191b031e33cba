-- The items of a list with one more item, or with an item replaced.
use Rattle.std.proofs.Common.{◌≡◌, ℕ, zero, suc, List, [], ◌∷◌, slice_get, slice_set, Some, ◌⊎◌, inl, inr, ap, refl}

-- an item after a replacement is the new item, or was there before
pub set_at : {A : Type 0} (xs : List A) (i : ℕ) (x : A) (k : ℕ) (y : A) → slice_get (slice_set xs i x) k ≡ Some y →
    ((k ≡ i) × (x ≡ y)) ⊎ (slice_get xs k ≡ Some y)
set_at [] i x k y is = cc
set_at (z ∷ xs) zero x zero y is = inl (refl, cc)
set_at (z ∷ xs) zero x (suc k) y is = inr is
set_at (z ∷ xs) (suc i) x zero y is = inr is
set_at (z ∷ xs) (suc i) x (suc k) y is =
    elim (set_at xs i x k y is) [ inl here ↦ inl (ap (λ (n : ℕ). suc n) here.0, here.1) | inr there ↦ inr there ]

-- an item before a replacement is replaced by the new item, or stays
pub replaced_at : {A : Type 0} (xs : List A) (i : ℕ) (x : A) (k : ℕ) (y : A) → slice_get xs k ≡ Some y →
    ((k ≡ i) × (slice_get (slice_set xs i x) k ≡ Some x)) ⊎ (slice_get (slice_set xs i x) k ≡ Some y)
replaced_at [] i x k y is = cc
replaced_at (z ∷ xs) zero x zero y is = inl (refl, refl)
replaced_at (z ∷ xs) zero x (suc k) y is = inr is
replaced_at (z ∷ xs) (suc i) x zero y is = inr is
replaced_at (z ∷ xs) (suc i) x (suc k) y is =
    elim (replaced_at xs i x k y is) [ inl here ↦ inl (ap (λ (n : ℕ). suc n) here.0, here.1) | inr there ↦ inr there ]
