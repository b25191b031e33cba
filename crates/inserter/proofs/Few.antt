-- Distinct items, each with a number below n and no two with the same number, are at most n.
use Rattle.std.proofs.Common.{◌≡◌, ℕ, suc, ◌<◌, ◌≤◌, true, List, [], ◌∷◌, length, refl, sym, ap, subst, arith, inl, inr}
use Rattle.std.specs.Prelude.{◌≢◌, ◌==◌}
use Rattle.std.specs.List.{AllPairs, Contains, list_any}
use Rattle.std.proofs.lemmas.Bool.{or_cases, eqb-true}
use Rattle.std.proofs.lemmas.Bool.Decides.{Decides-eqb}
use Rattle.std.proofs.lemmas.Map.Made.{IsDistinct-from_AllPairs}
use Rattle.std.proofs.lemmas.Map.Steps.{length-le_from_distinct_below}
use Rattle.inserter.proofs.Held.{distinct_cons, distinct_rest}
use Rattle.core_lang.specs.Theory.Items.{not_in_none, in_first, in_rest, in_cases, distinct_first}

among : (q : ℕ) (xs : List ℕ) → list_any (λ x. q == x) xs ≡ true → Contains xs q
among q [] e = absurd cc
among q (x ∷ xs) e =
    elim (or_cases (q == x) (list_any (λ y. q == y) xs) e) [
      | inl same ↦ (0, omega arith, sym (eqb-true q x same))
      | inr more ↦ in_rest x q xs (among q xs more)
    ]

no_more : (xs : List ℕ) (n : ℕ) → AllPairs ◌≢◌ xs → ((q : ℕ) → Contains xs q → q < n) → length xs ≤ n
no_more xs n d b = length-le_from_distinct_below xs n (IsDistinct-from_AllPairs Decides-eqb xs d) (λ q e. b q (among q xs e))

module _ {X : Type 0} (n : ℕ) (HasNumber : ℕ → X → Type 0) (one : (i : ℕ) (x y : X) → HasNumber i x → HasNumber i y → x ≡ y) where
  -- numbers of the items, as many and as distinct
  record AreNumbers (xs : List X) : Type 0 where
    numbers : List ℕ
    long : length numbers ≡ length xs
    distinct : AllPairs ◌≢◌ numbers
    below : (i : ℕ) → Contains numbers i → i < n
    has : (i : ℕ) → Contains numbers i → (x : X) × Contains xs x × HasNumber i x

  numbered : (xs : List X) → AllPairs ◌≢◌ xs → ((x : X) → Contains xs x → (i : ℕ) × (i < n) × HasNumber i x) →
      AreNumbers xs
  numbered [] d each = record {
    numbers = [];
    long = refl;
    distinct = λ i j k lt b. absurd (omega (arith, b));
    below = λ i c. absurd (not_in_none i c);
    has = λ i c. absurd (not_in_none i c);
  }
  numbered (x ∷ xs) d each =
      let r = numbered xs (distinct_rest x xs d) (λ y c. each y (in_rest x y xs c)) in
      let first = each x (in_first x xs) in
      let new : Contains r.numbers first.0 → ⊥ = λ c.
      let y = r.has first.0 c in distinct_first x xs d (subst (λ (z : X). Contains xs z) (one first.0 y.0 x y.2 first.2) y.1)
      in
      record {
        numbers = first.0 ∷ r.numbers;
        long = ap suc r.long;
        distinct = distinct_cons first.0 r.numbers r.distinct new;
        below = λ i c. elim (in_cases first.0 i r.numbers c) [ inl e ↦ omega (arith, first.1, e) | inr m ↦ r.below i m ];
        has = λ i c. elim (in_cases first.0 i r.numbers c) [
          | inl e ↦ (x, in_first x xs, subst (λ k. HasNumber k x) e first.2)
          | inr m ↦ let y = r.has i m in (y.0, in_rest x y.0 xs y.1, y.2)
        ];
      }

  pub no_more_than : (xs : List X) → AllPairs ◌≢◌ xs → ((x : X) → Contains xs x → (i : ℕ) × (i < n) × HasNumber i x) →
      length xs ≤ n
  no_more_than xs d each =
      let r = numbered xs d each in
      let few : length r.numbers ≤ n = no_more r.numbers n r.distinct r.below in
      omega (arith, few, r.long)
