-- The numbers of locks. Nobody has to believe this: it is proved here, for proofs of this crate and of those above.
use Rattle.std.proofs.Common.{◌≡◌, ◌≢◌, ℕ, zero, suc, ◌+◌, if◌then◌else◌, List, [], ◌∷◌, Some, inl, inr, sym, ap, ◌∙◌}
use Rattle.std.proofs.Common.{arith}
use Rattle.std.specs.Prelude.{slice_get}
use Rattle.std.proofs.lemmas.Option.{none-some}
use Rattle.locks.specs.declared.lock.Lock.{Lock}
use Rattle.layout.specs.Layouts.{AreDistinct}
use Rattle.lock_manager.specs.Working.Managers.{number_from}
use Rattle.locks.specs.Theory.Order.{lock_cases}
use Rattle.layout.specs.Theory.Numbers.{distinct_rest}

later_number : (k : ℕ) (l : Lock) (ls : List Lock) (lock : Lock) (i : ℕ) → slice_get (l ∷ ls) i ≡ Some lock → l ≢ lock →
    ((j : ℕ) → slice_get ls j ≡ Some lock → number_from (k + 1) ls lock ≡ Some ((k + 1) + j)) → number_from (k + 1) ls lock ≡ Some (k + i)
later_number k l ls lock zero e ne go = let same : l ≡ lock = cc in absurd (ne same)
later_number k l ls lock (suc j) e ne go = go j e ∙ ap Some (let sum : (k + 1) + j ≡ k + suc j = omega arith in sum)

pub number_found : (k : ℕ) (locks : List Lock) (lock : Lock) (i : ℕ) → AreDistinct locks →
    slice_get locks i ≡ Some lock → number_from k locks lock ≡ Some (k + i)
number_found k [] lock i d e = absurd (none-some lock e)
number_found k (l ∷ ls) lock i d e = elim (lock_cases l lock) [
  | inl same ↦ (
      let here : slice_get (l ∷ ls) 0 ≡ Some lock = ap Some same.1 in
      let first : i ≡ 0 = d i 0 lock e here in
      let sum : k ≡ k + i = omega (arith, first) in
      ap (λ b. if b then Some k else number_from (k + 1) ls lock) same.0 ∙ ap Some sum)
  | inr other ↦ ap (λ b. if b then Some k else number_from (k + 1) ls lock) other.0
      ∙ later_number k l ls lock i e other.1 (λ j at. number_found (k + 1) ls lock j (distinct_rest l ls d) at)
]

pub number_at : (k : ℕ) (locks : List Lock) (lock : Lock) (n : ℕ) → number_from k locks lock ≡ Some n →
    (i : ℕ) × (n ≡ k + i) × (slice_get locks i ≡ Some lock)
number_at k [] lock n e = absurd (none-some n e)
number_at k (l ∷ ls) lock n e = elim (lock_cases l lock) [
  | inl same ↦ (
      let at : Some k ≡ Some n = sym (ap (λ b. if b then Some k else number_from (k + 1) ls lock) same.0) ∙ e in
      let same_number : k ≡ n = cc in
      (0, omega (arith, same_number), ap Some same.1))
  | inr other ↦ (
      let r = number_at (k + 1) ls lock n (sym (ap (λ b. if b then Some k else number_from (k + 1) ls lock) other.0) ∙ e) in
      (suc r.0, omega (arith, r.1), r.2))
]
