-- What is in a list, and whether some of it passes a test.
use Rattle.std.proofs.Common.{◌≡◌, ◌⊎◌, inl, inr, ℕ, zero, suc, Bool, true, false, List, [], ◌∷◌, ◌++◌, Some, refl}
use Rattle.std.specs.Bool.{Decides}
use Rattle.std.specs.List.{flat_map, list_any}
use Rattle.std.specs.Prelude.{◌||◌, not, slice_get}
use Rattle.std.proofs.lemmas.Option.{same_Some}
use Rattle.resolution.specs.Where.{Has, first, further}

-- ---- truth values

pub or_either : (a b : Bool) → a || b ≡ true → (a ≡ true) ⊎ (b ≡ true)
or_either true b e = inl refl
or_either false b e = inr e

pub or_left : (a b : Bool) → a ≡ true → a || b ≡ true
or_left true b e = refl
or_left false b e = absurd cc

pub or_right : (a b : Bool) → b ≡ true → a || b ≡ true
or_right true b e = refl
or_right false b e = e

pub same_bools : (a b : Bool) → (a ≡ true → b ≡ true) → (b ≡ true → a ≡ true) → a ≡ b
same_bools true true f g = refl
same_bools false false f g = refl
same_bools true false f g = let e : false ≡ true = f refl in cc
same_bools false true f g = let e : false ≡ true = g refl in cc

pub not_decides : (b : Bool) (P : Type 0) → (b ≡ true → P) → (P → b ≡ true) → Decides (not b) (P → ⊥)
not_decides true P f g = (λ (e : false ≡ true). absurd cc, λ no. absurd (no (f refl)))
not_decides false P f g = (λ e p. let h : false ≡ true = g p in absurd cc, λ no. refl)

-- ---- lists

pub has_at : {A : Type 0} (xs : List A) (x : A) → Has xs x → (k : ℕ) × (slice_get xs k ≡ Some x)
has_at {A = A} [] x h = elim h [ ]
has_at (y ∷ xs) x first = (zero, refl)
has_at (y ∷ xs) x (further h) = let k = has_at xs x h in (suc k.0, k.1)

pub at_has : {A : Type 0} (xs : List A) (k : ℕ) (x : A) → slice_get xs k ≡ Some x → Has xs x
at_has [] k x e = absurd cc
at_has (y ∷ xs) zero x e = rw (same_Some y x e) first
at_has (y ∷ xs) (suc k) x e = further (at_has xs k x e)

pub has_left : {A : Type 0} (xs ys : List A) (x : A) → Has xs x → Has (xs ++ ys) x
has_left [] ys x h = elim h [ ]
has_left (y ∷ xs) ys x first = first
has_left (y ∷ xs) ys x (further h) = further (has_left xs ys x h)

pub has_right : {A : Type 0} (xs ys : List A) (x : A) → Has ys x → Has (xs ++ ys) x
has_right [] ys x h = h
has_right (y ∷ xs) ys x h = further (has_right xs ys x h)

pub has_either : {A : Type 0} (xs ys : List A) (x : A) → Has (xs ++ ys) x → Has xs x ⊎ Has ys x
has_either [] ys x h = inr h
has_either (y ∷ xs) ys x first = inl first
has_either (y ∷ xs) ys x (further h) = elim (has_either xs ys x h) [ inl l ↦ inl (further l) | inr r ↦ inr r ]

pub has_one : {A : Type 0} (x y : A) → Has (x ∷ []) y → x ≡ y
has_one x y first = refl
has_one x y (further h) = elim h [ ]

pub has_flat : {A B : Type 0} (f : A → List B) (xs : List A) (x : A) (y : B) → Has xs x → Has (f x) y → Has (flat_map f xs) y
has_flat f [] x y h in_x = elim h [ ]
has_flat f (z ∷ xs) x y first in_x = has_left (f z) (flat_map f xs) y in_x
has_flat f (z ∷ xs) x y (further h) in_x = has_right (f z) (flat_map f xs) y (has_flat f xs x y h in_x)

pub record Source {A B : Type 0} (f : A → List B) (xs : List A) (y : B) : Type 0 where
  pub x : A
  pub listed : Has xs x
  pub gives : Has (f x) y

pub flat_has : {A B : Type 0} (f : A → List B) (xs : List A) (y : B) → Has (flat_map f xs) y → Source f xs y
flat_has {A} {B} f [] y h = elim h [ ]
flat_has f (z ∷ xs) y h =
    elim (has_either (f z) (flat_map f xs) y h) [
      | inl here ↦ record { x = z; listed = first; gives = here }
      | inr there ↦ let s = flat_has f xs y there in record { x = s.x; listed = further s.listed; gives = s.gives }
    ]

-- ---- tests

pub record Passing {A : Type 0} (p : A → Bool) (xs : List A) : Type 0 where
  pub x : A
  pub listed : Has xs x
  pub passes : p x ≡ true

pub any_has : {A : Type 0} (p : A → Bool) (xs : List A) → list_any p xs ≡ true → Passing p xs
any_has p [] e = absurd cc
any_has p (y ∷ xs) e =
    elim (or_either (p y) (list_any p xs) e) [
      | inl here ↦ record { x = y; listed = first; passes = here }
      | inr there ↦ let s = any_has p xs there in record { x = s.x; listed = further s.listed; passes = s.passes }
    ]

pub has_any : {A : Type 0} (p : A → Bool) (xs : List A) (x : A) → Has xs x → p x ≡ true → list_any p xs ≡ true
has_any p [] x h e = elim h [ ]
has_any p (y ∷ xs) x first e = or_left (p y) (list_any p xs) e
has_any p (y ∷ xs) x (further h) e = or_right (p y) (list_any p xs) (has_any p xs x h e)
