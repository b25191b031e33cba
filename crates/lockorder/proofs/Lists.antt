-- Lists of numbers, and their items.
use Rattle.std.proofs.Common.{◌≡◌, ℕ, zero, suc, ◌≤◌, ◌<◌, Bool, true, false, List, [], ◌∷◌, ◌++◌, take, length, get_or}
use Rattle.std.proofs.Common.{Option, Some, None, ◌⊎◌, inl, inr, refl, sym, ap, ◌∙◌, arith}
use Rattle.std.specs.Prelude.{◌≢◌, ◌==◌, slice_get}
use Rattle.std.specs.List.{All, AllPairs, Contains, list_any}
use Rattle.std.proofs.lemmas.Bool.{or_cases, or_left, or_right, eqb-true, eq-eqb, cases_lt, cases_Bool, both_ways}
use Rattle.std.proofs.lemmas.Bool.Decides.{Decides-eqb}
use Rattle.std.proofs.lemmas.Option.{get_or_from_slice_get, slice_get-get_or}
use Rattle.std.proofs.lemmas.List.Elements.{All-contains}
use Rattle.std.proofs.lemmas.List.Kept.{AllPairs-cons}
use Rattle.std.proofs.lemmas.List.Quantifiers.{all_pairs_push}
use Rattle.std.proofs.lemmas.Map.Made.{IsDistinct-from_AllPairs}
use Rattle.std.proofs.lemmas.Map.Steps.{length-le_from_distinct_below, le-length_from_below}
use Rattle.core_lang.specs.Theory.Items.{in_cases, in_rest, not_in_none}

-- ---- what a list contains

pub in_take : {X : Type 0} (k : ℕ) (xs : List X) (x : X) → Contains (take k xs) x →
    (j : ℕ) × (j < k) × (slice_get xs j ≡ Some x)
in_take zero xs x c = absurd (not_in_none x c)
in_take (suc k) [] x c = absurd (not_in_none x c)
in_take (suc k) (y ∷ xs) x c =
    elim (in_cases y x (take k xs) c) [
      | inl e ↦ (0, omega arith, ap Some e)
      | inr m ↦ let r = in_take k xs x m in (suc r.0, omega (arith, r.1), r.2)
    ]

-- ---- lists of numbers without repeats

among : (q : ℕ) (xs : List ℕ) → list_any (λ x. q == x) xs ≡ true → Contains xs q
among q [] e = absurd cc
among q (x ∷ xs) e =
    elim (or_cases (q == x) (list_any (λ y. q == y) xs) e) [
      | inl same ↦ (0, omega arith, sym (eqb-true q x same))
      | inr more ↦ in_rest x q xs (among q xs more)
    ]

is_among : (q : ℕ) (xs : List ℕ) → Contains xs q → list_any (λ x. q == x) xs ≡ true
is_among q [] c = absurd (not_in_none q c)
is_among q (x ∷ xs) c =
    elim (in_cases x q xs c) [
      | inl e ↦ or_left (q == x) (list_any (λ y. q == y) xs) (eq-eqb q x (sym e))
      | inr m ↦ or_right (q == x) (list_any (λ y. q == y) xs) (is_among q xs m)
    ]

pub among_or_not : (q : ℕ) (xs : List ℕ) → Contains xs q ⊎ (Contains xs q → ⊥)
among_or_not q xs =
    elim (cases_Bool (list_any (λ x. q == x) xs)) [
      | inl is_so ↦ inl (among q xs is_so)
      | inr not_so ↦ inr (λ c. both_ways (list_any (λ x. q == x) xs) not_so (is_among q xs c))
    ]

-- a list of distinct numbers below n has at most n items
pub no_more : (xs : List ℕ) (n : ℕ) → AllPairs ◌≢◌ xs → All (λ x. x < n) xs → length xs ≤ n
no_more xs n d b =
    length-le_from_distinct_below xs n (IsDistinct-from_AllPairs Decides-eqb xs d) (λ q e. All-contains (λ x. x < n) xs q b (among q xs e))

-- a list that has each number below n has at least n items
pub no_fewer : (xs : List ℕ) (n : ℕ) → ((q : ℕ) → q < n → Contains xs q) → n ≤ length xs
no_fewer xs n h = le-length_from_below xs n (λ q lt. is_among q xs (h q lt))

at_contains : (xs : List ℕ) (k d x : ℕ) → k < length xs → get_or xs k d ≡ x → Contains xs x
at_contains xs k d x lt e = (k, lt, get_or_from_slice_get xs k (get_or xs k d) x (slice_get-get_or xs k d lt) ∙ e)

pub distinct_push : (xs : List ℕ) (y : ℕ) → AllPairs ◌≢◌ xs → (Contains xs y → ⊥) → AllPairs ◌≢◌ (xs ++ y ∷ [])
distinct_push xs y d new = all_pairs_push ◌≢◌ xs y d (λ k z lt e. new (at_contains xs k z y lt e))

pub distinct_cons : (x : ℕ) (xs : List ℕ) → AllPairs ◌≢◌ xs → (Contains xs x → ⊥) → AllPairs ◌≢◌ (x ∷ xs)
distinct_cons x xs d new = AllPairs-cons ◌≢◌ x xs (λ k z lt e. new (at_contains xs k z x lt (sym e))) d

-- ---- numbers below a bound

pub found_below : (f : ℕ → Bool) (n : ℕ) → ((k : ℕ) × (k < n) × (f k ≡ true)) ⊎ ((k : ℕ) → k < n → f k ≡ false)
found_below f zero = inr (λ k lt. absurd (omega arith))
found_below f (suc n) =
    elim (cases_Bool (f n)) [
      | inl is_so ↦ inl (n, omega arith, is_so)
      | inr not_so ↦ elim (found_below f n) [
        | inl x ↦ inl (x.0, omega (arith, x.1), x.2)
        | inr none ↦ inr (λ k lt. or_last k lt not_so none)
      ]
    ]
  where
    or_last : (k : ℕ) → k < suc n → f n ≡ false → ((j : ℕ) → j < n → f j ≡ false) → f k ≡ false
    or_last k lt last none = elim (cases_lt k n) [ inl less ↦ none k less | inr ge ↦ let same : k ≡ n = omega arith in ap f same ∙ last ]

-- an option with a property that no value has is `None`
pub none_only : {A : Type 0} (C : Option A → Type 0) → ((x : A) → C (Some x) → ⊥) → (y : Option A) → C y → y ≡ None
none_only C never None c = refl
none_only C never (Some x) c = absurd (never x c)
