-- The partition point is the number of items that pass.
use Rattle.std.proofs.Common.{◌≡◌, ℕ, zero, suc, Bool, true, false, ◌+◌, ◌≤◌, List, [], ◌∷◌, length, refl, ap, ◌∙◌}
use Rattle.std.proofs.Common.{arith, cond}
use Rattle.std.specs.Prelude.{◌-◌, Option, Some, None}
use Rattle.std.specs.Option.{SomeIff}
use Rattle.std.specs.List.{count_by}
use Rattle.std.specs.List.Sorted.{IsPartitionPoint}
use Rattle.std.proofs.lemmas.List.Sums.{sum_by-cons}
use Rattle.code.specs.LineTables.{last_of}

one_more : (b : Bool) (n : ℕ) → b ≡ true → cond b 1 0 + n ≡ suc n
one_more true n e = omega arith
one_more false n e = absurd cc

no_more : (b : Bool) (n : ℕ) → b ≡ false → cond b 1 0 + n ≡ n
no_more true n e = absurd cc
no_more false n e = omega arith

counts : (p : ℕ → Bool) (x : ℕ) (xs : List ℕ) → count_by p (x ∷ xs) ≡ cond (p x) 1 0 + count_by p xs
counts p x xs = sum_by-cons (λ (y : ℕ). cond (p y) 1 0) x xs

pub counted : (p : ℕ → Bool) (xs : List ℕ) (i : ℕ) → i ≤ length xs →
    IsPartitionPoint (λ x. p x ≡ true) (λ x. p x ≡ false) xs i → count_by p xs ≡ i
counted p [] i le parts = omega arith
counted p (x ∷ xs) zero le parts =
    let rest = counted p xs zero (omega arith) ((λ k d l m. absurd (omega arith)), (λ k d l m. parts.1 (suc k) d (omega arith) (omega arith))) in
    counts p x xs ∙ no_more (p x) (count_by p xs) (parts.1 0 0 (omega arith) (omega arith)) ∙ rest
counted p (x ∷ xs) (suc i) le parts =
    let rest = counted p xs i (omega arith)
    ((λ k d l m. parts.0 (suc k) d (omega arith) (omega arith)), (λ k d l m. parts.1 (suc k) d (omega arith) (omega arith))) in
    counts p x xs ∙ one_more (p x) (count_by p xs) (parts.0 0 0 (omega arith) (omega arith)) ∙ ap suc rest

-- the result of `checked_sub` for one less
pub one_less : (n : ℕ) (r : Option ℕ) → SomeIff r (1 ≤ n) (n - 1) → r ≡ last_of n
one_less zero None h = refl
one_less zero (Some m) h = let le = h.0 in absurd (omega (arith, le))
one_less (suc n) None h = absurd (h (omega arith))
one_less (suc n) (Some m) h = let is = h.1 in let e : m ≡ n = omega (arith, is) in ap Some e
