-- The numbers of calls that are done and of all calls, and the orders that begin with a next call. Nobody has to
-- believe this: it is proved here, for proofs of this crate and of those above.
use Rattle.std.proofs.Common.{◌≡◌, ◌∙◌, ℕ, ◌+◌, ◌<◌, zero, suc, List, [], ◌∷◌, length, map, replicate, get_or}
use Rattle.std.proofs.Common.{slice_set, Option, Some, inl, inr, ap, sym, subst, refl, arith}
use Rattle.std.specs.List.{Contains}
use Rattle.std.proofs.lemmas.Bool.{cases_eq}
use Rattle.std.proofs.lemmas.List.{length-map}
use Rattle.std.proofs.lemmas.List.Elements.{Contains-append_left, Contains-append_right}
use Rattle.std.proofs.Math.ListN.{get_or-map}
use Rattle.core_lang.specs.declared.typed.Thread.{Thread}
use Rattle.core_lang.specs.declared.typed.Typed.{Typed}
use Rattle.core_lang.specs.Serial.{Invocation}
use Rattle.core_lang.specs.WellFormed.{calls_together}
use Rattle.outcomes.specs.Orders.{next_call, one_more, begun_with, begun_by}

-- ---- counts

abbrev pub sums : List ℕ → ℕ
sums [] = 0
sums (x ∷ xs) = x + sums xs

-- the number of calls of each thread
abbrev pub lengths : List Thread → List ℕ
lengths [] = []
lengths (t ∷ ts) = length t.calls.items ∷ lengths ts

pub sums-lengths : (ts : List Thread) → sums (lengths ts) ≡ calls_together ts
sums-lengths [] = refl
sums-lengths (t ∷ ts) = ap (λ n. length t.calls.items + n) (sums-lengths ts)

pub length-lengths : (ts : List Thread) → length (lengths ts) ≡ length ts
length-lengths [] = refl
length-lengths (t ∷ ts) = ap (λ n. suc n) (length-lengths ts)

-- the sum after one of the numbers was increased by one
pub sums_set : (xs : List ℕ) (k : ℕ) → k < length xs → sums (slice_set xs k (get_or xs k 0 + 1)) ≡ suc (sums xs)
sums_set [] k within = absurd (omega arith)
sums_set (x ∷ xs) zero within = omega arith
sums_set (x ∷ xs) (suc k) within = ap (λ n. x + n) (sums_set xs k (omega arith)) ∙ omega arith

pub sums_zero : (n : ℕ) → sums (replicate n 0) ≡ 0
sums_zero zero = refl
sums_zero (suc n) = ap (λ k. 0 + k) (sums_zero n)

pub zero_at : (n k : ℕ) → (let zeros : List ℕ = replicate n 0 in get_or zeros k 0 ≡ 0)
zero_at zero k = refl
zero_at (suc n) zero = refl
zero_at (suc n) (suc k) = zero_at n k

-- ---- orders

among_behind : (t : ℕ) (orders : List (List ℕ)) (order : List ℕ) → Contains orders order →
    Contains (map (λ (o : List ℕ). t ∷ o) orders) (t ∷ order)
among_behind t orders order there =
    (there.0, (let within = there.1 in rw length-map within), get_or-map (λ (o : List ℕ). t ∷ o) orders there.0 order ∙ ap (λ (o : List ℕ). t ∷ o) there.2)

below_other : (t c : ℕ) → t < suc c → (t ≡ c → ⊥) → t < c
below_other t c within other = omega arith

pub among_begun : (program : Typed) (following : List ℕ →
    List (List ℕ)) (done : List ℕ) (count t : ℕ) (call : Invocation) (order : List ℕ) → t < count →
    next_call program done t ≡ Some call → Contains (following (one_more done t)) order → Contains (begun_by program following done count) (t ∷ order)
among_begun program following done zero t call order within next there = absurd (omega arith)
among_begun program following done (suc c) t call order within next there =
    elim (cases_eq t c) [
      | inl same ↦ Contains-append_right (begun_by program following done c) _ (t ∷ order)
          (subst (λ (x : ℕ). Contains (begun_with (next_call program done x) x (following (one_more done x))) (t ∷ order)) same
          (subst (λ (o : Option Invocation). Contains (begun_with o t (following (one_more done t))) (t ∷ order)) (sym next)
          (among_behind t (following (one_more done t)) order there)))
      | inr other ↦ Contains-append_left (begun_by program following done c) _ (t ∷ order)
          (among_begun program following done c t call order (below_other t c within other) next there)
    ]
