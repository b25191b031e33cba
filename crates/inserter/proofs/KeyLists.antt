-- The keys of a section's paths: each once, in rising order after sorting; and the paths of a set in that order.
use Rattle.std.proofs.Common.{◌≡◌, ◌<◌, ◌≤◌, ◌+◌, ◌⊎◌, ℕ, zero, suc, Bool, true, false, List, [], ◌∷◌, length, get_or}
use Rattle.std.proofs.Common.{if◌then◌else◌, inl, inr, sym, ap, ◌∙◌, subst, arith, refl}
use Rattle.std.specs.Prelude.{slice_index, ◌==◌, ◌%◌}
use Rattle.std.specs.List.{AllPairs, Contains}
use Rattle.std.specs.List.Sorted.{IsPermutation, IsSortedByKey}
use Rattle.std.specs.Ordering.{nat_cmp}
use Rattle.std.proofs.lemmas.Bool.{cases_Bool, eqb-true, eq-eqb, both_ways}
use Rattle.std.proofs.lemmas.List.Elements.{Contains-append_left, Contains-append_right, Contains-append_cases}
use Rattle.std.proofs.lemmas.List.Sorted.{IsNonDecreasingBy-from_sort, Contains-permutation, IsPermutation-sym}
use Rattle.std.proofs.lemmas.List.Kept.{AllPairs-cons, AllPairs-from_increasing}
use Rattle.std.proofs.lemmas.List.Quantifiers.{all_pairs_push}
use Rattle.std.proofs.lemmas.Map.Keys.{IsDistinct-IsPermutation, IsStrictlyIncreasing-from_distinct}
use Rattle.std.proofs.lemmas.Map.Made.{IsDistinct-from_AllPairs}
use Rattle.std.proofs.lemmas.Bool.Decides.{Decides-eqb}
use Rattle.std.proofs.lemmas.Nat.{mod-mul-add}
use Rattle.locks.specs.declared.path_set.PathSet.{PathSet}
use Rattle.locks.specs.Sets.{has}
use Rattle.inserter.specs.Working.Keys.{key_of, first_keys, AreKeys, numbers_in}
use Rattle.core_lang.specs.Theory.Items.{in_cases, in_first, in_rest, not_in_none}

-- ---- what a list contains

at_contains : {X : Type 0} (xs : List X) (k : ℕ) (d x : X) → k < length xs → get_or xs k d ≡ x → Contains xs x
at_contains [] k d x lt e = absurd (omega (arith, lt))
at_contains (y ∷ xs) zero d x lt e = (0, omega arith, e)
at_contains (y ∷ xs) (suc k) d x lt e = in_rest y x xs (at_contains xs k d x (omega (arith, lt)) e)

-- ---- the keys

in_first_keys : (ranks : List ℕ) (n i : ℕ) → i < n → Contains (first_keys ranks n) (key_of ranks i)
in_first_keys ranks zero i lt = absurd (omega (arith, lt))
in_first_keys ranks (suc n) i lt =
    elim (cases_below i n (omega (arith, lt))) [
      | inl same ↦ subst (λ x. Contains (first_keys ranks (suc n)) (key_of ranks x)) (sym same) (Contains-append_right (first_keys ranks n) (key_of ranks n ∷ []) (key_of ranks n) (in_first (key_of ranks n) []))
      | inr less ↦ Contains-append_left (first_keys ranks n) (key_of ranks n ∷ []) (key_of ranks i) (in_first_keys ranks n i less)
    ]
  where
    cases_below : (i n : ℕ) → i < n + 1 → (i ≡ n) ⊎ (i < n)
    cases_below zero zero lt = inl refl
    cases_below zero (suc n) lt = inr (omega arith)
    cases_below (suc i) zero lt = absurd (omega (arith, lt))
    cases_below (suc i) (suc n) lt = elim (cases_below i n (omega (arith, lt))) [ inl e ↦ inl (ap suc e) | inr l ↦ inr (omega (arith, l)) ]

of_first_keys : (ranks : List ℕ) (n k : ℕ) → Contains (first_keys ranks n) k → (i : ℕ) × (i < n) × (k ≡ key_of ranks i)
of_first_keys ranks zero k c = absurd (not_in_none k c)
of_first_keys ranks (suc n) k c =
    elim (Contains-append_cases (first_keys ranks n) (key_of ranks n ∷ []) k c) [
      | inl old ↦ let h = of_first_keys ranks n k old in (h.0, omega (arith, h.1), h.2)
      | inr new ↦ elim (in_cases (key_of ranks n) k [] new) [ inl e ↦ (n, omega arith, sym e) | inr none ↦ absurd (not_in_none k none) ]
    ]

-- keys of paths with other numbers are other keys
apart : (ranks : List ℕ) (n k : ℕ) → n < 64 → Contains (first_keys ranks n) k → (k ≡ key_of ranks n) → ⊥
apart ranks n k few c e =
    let h = of_first_keys ranks n k c in
    omega (arith, h.1, h.2, e, few)

distinct : (ranks : List ℕ) (n : ℕ) → n ≤ 64 → AllPairs (λ x y. (x ≡ y) → ⊥) (first_keys ranks n)
distinct ranks zero few = λ i j d lt bound. omega (arith, bound)
distinct ranks (suc n) few =
    all_pairs_push (λ x y. (x ≡ y) → ⊥) (first_keys ranks n) (key_of ranks n) (distinct ranks n (omega (arith, few)))
    (λ k d lt e. apart ranks n (get_or (first_keys ranks n) k d) (omega (arith, few)) (at_contains (first_keys ranks n) k d _ lt refl) e)

flips : (x y : ℕ) → (x == y) ≡ (y == x)
flips x y =
    elim (cases_Bool (x == y)) [
      | inl t ↦ t ∙ sym (eq-eqb y x (sym (eqb-true x y t)))
      | inr f ↦ elim (cases_Bool (y == x)) [ inl t ↦ absurd (both_ways (x == y) f (eq-eqb x y (sym (eqb-true y x t)))) | inr g ↦ f ∙ sym g ]
    ]

-- sorted, they are the keys that are asked for
pub sorted_are_keys : (ranks keys sorted : List ℕ) → length ranks ≤ 64 → keys ≡ first_keys ranks (length ranks) →
    IsPermutation keys sorted →
    IsSortedByKey (λ (x : ℕ). x) nat_cmp sorted → AreKeys ranks sorted
sorted_are_keys ranks keys sorted few first moved ordered =
    let moved' = subst (λ (l : List ℕ). IsPermutation l sorted) first moved in
    let all = first_keys ranks (length ranks) in
    let apart_first = IsDistinct-from_AllPairs Decides-eqb all (distinct ranks (length ranks) few) in
    let apart_sorted = IsDistinct-IsPermutation (λ x y. x == y) flips all sorted moved' apart_first in
    record {
      rising = AllPairs-from_increasing sorted (IsStrictlyIncreasing-from_distinct sorted (IsNonDecreasingBy-from_sort (λ x. x) sorted ordered) apart_sorted);
      each = λ k c. of_first_keys ranks (length ranks) k (Contains-permutation sorted all k (IsPermutation-sym all sorted moved') c);
      all = λ i lt. Contains-permutation all sorted (key_of ranks i) moved' (in_first_keys ranks (length ranks) i lt);
    }

-- ---- the paths of a set

pub number_of_key : (ranks : List ℕ) (i : ℕ) → i < 64 → key_of ranks i % 64 ≡ i
number_of_key ranks i lt = mod-mul-add (slice_index ranks i) 64 i lt

in_if : (b : Bool) (x i : ℕ) (xs : List ℕ) → Contains (if b then x ∷ xs else xs) i →
    ((b ≡ true) × (x ≡ i)) ⊎ Contains xs i
in_if true x i xs c = elim (in_cases x i xs c) [ inl e ↦ inl (refl, e) | inr m ↦ inr m ]
in_if false x i xs c = inr c

first_if : (b : Bool) (x : ℕ) (xs : List ℕ) → b ≡ true → Contains (if b then x ∷ xs else xs) x
first_if true x xs e = in_first x xs
first_if false x xs e = cc

rest_if : (b : Bool) (x i : ℕ) (xs : List ℕ) → Contains xs i → Contains (if b then x ∷ xs else xs) i
rest_if true x i xs c = in_rest x i xs c
rest_if false x i xs c = c

pairs_if : (R : ℕ → ℕ → Type 0) (b : Bool) (x : ℕ) (xs : List ℕ) → AllPairs R xs → ((y : ℕ) → Contains xs y → R x y) →
    AllPairs R (if b then x ∷ xs else xs)
pairs_if R true x xs pairs before = AllPairs-cons R x xs (λ k d lt. before (get_or xs k d) (at_contains xs k d _ lt refl)) pairs
pairs_if R false x xs pairs before = pairs

pub of_numbers : (set : PathSet) (keys : List ℕ) (i : ℕ) → Contains (numbers_in set keys) i →
    (k : ℕ) × Contains keys k × (k % 64 ≡ i) × (has set i ≡ true)
of_numbers set [] i c = absurd (not_in_none i c)
of_numbers set (k ∷ ks) i c =
    elim (in_if (has set (k % 64)) (k % 64) i (numbers_in set ks) c) [
      | inl h ↦ (k, in_first k ks, h.1, ap (has set) (sym h.1) ∙ h.0)
      | inr m ↦ let h = of_numbers set ks i m in (h.0, in_rest k h.0 ks h.1, h.2, h.3)
    ]

pub in_numbers : (set : PathSet) (keys : List ℕ) (k : ℕ) → Contains keys k → has set (k % 64) ≡ true →
    Contains (numbers_in set keys) (k % 64)
in_numbers set [] k c t = absurd (not_in_none k c)
in_numbers set (x ∷ ks) k c t =
    elim (in_cases x k ks c) [
      | inl e ↦
          subst (λ y. Contains (numbers_in set (x ∷ ks)) (y % 64)) e
          (first_if (has set (x % 64)) (x % 64) (numbers_in set ks) (ap (λ y. has set (y % 64)) e ∙ t))
      | inr m ↦ rest_if (has set (x % 64)) (x % 64) (k % 64) (numbers_in set ks) (in_numbers set ks k m t)
    ]

-- if the keys rise and are those of their paths, the keys of the listed paths rise
pub numbers_rise : (ranks : List ℕ) (set : PathSet) (keys : List ℕ) → AllPairs ◌<◌ keys →
    ((k : ℕ) → Contains keys k → k ≡ key_of ranks (k % 64)) →
    AllPairs (λ i j. key_of ranks i < key_of ranks j) (numbers_in set keys)
numbers_rise ranks set [] rising own = λ i j d lt bound. omega (arith, bound)
numbers_rise ranks set (k ∷ ks) rising own =
    pairs_if (λ i j. key_of ranks i < key_of ranks j) (has set (k % 64)) (k % 64) (numbers_in set ks)
    (numbers_rise ranks set ks (λ i j d lt bound. rising (suc i) (suc j) d (omega (arith, lt)) (omega (arith, bound))) (λ x c. own x (in_rest k x ks c)))
    (λ y c. let h = of_numbers set ks y c in above y h)
  where
    above : (y : ℕ) → (x : ℕ) × Contains ks x × (x % 64 ≡ y) × (has set y ≡ true) →
        key_of ranks (k % 64) < key_of ranks y
    above y h =
        let less : k < h.0 = subst (λ z. k < z) h.1.2 (rising 0 (suc h.1.0) h.0 (omega arith) (omega (arith, h.1.1))) in
        let here = own k (in_first k ks) in
        let there = own h.0 (in_rest k h.0 ks h.1) ∙ ap (key_of ranks) h.2 in
        omega (arith, less, here, there)

-- the key of a path is that of its number
pub own_key : (ranks keys : List ℕ) → length ranks ≤ 64 → AreKeys ranks keys → (k : ℕ) → Contains keys k →
    (k % 64 < length ranks) × (k ≡ key_of ranks (k % 64))
own_key ranks keys few are k c =
    let h = are.each k c in
    let same : k % 64 ≡ h.0 = ap (λ x. x % 64) h.2 ∙ number_of_key ranks h.0 (omega (arith, h.1, few)) in
    (subst (λ x. x < length ranks) (sym same) h.1, subst (λ x. k ≡ key_of ranks x) (sym same) h.2)
