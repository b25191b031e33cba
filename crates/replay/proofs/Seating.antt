-- Seats, as calls come.
use Rattle.std.proofs.Common.{◌≡◌, ◌∙◌, ◌≤◌, ℕ, ◌+◌, List, [], ◌∷◌, ◌++◌, length}
use Rattle.std.proofs.Common.{arith, sym, ap, refl, subst, inl, inr}
use Rattle.std.specs.Prelude.{◌↔◌, unwrap_or}
use Rattle.std.specs.BTreeMap.{BTreeMap, is_at}
use Rattle.std.specs.Map.{lookup}
use Rattle.std.specs.Ordering.{nat_cmp}
use Rattle.core_lang.specs.declared.typed.Typed.{Typed}
use Rattle.std.proofs.lemmas.Bool.{cases_eq, eq-eqb, ne_eqb}
use Rattle.std.proofs.lemmas.List.{length_push}
use Rattle.std.proofs.lemmas.List.Sums.{sum_by-append}
use Rattle.std.proofs.lemmas.Option.{slice_get_within}
use Rattle.core_lang.specs.Theory.Items.{still_at, behind_at, pushed_at}
use Rattle.replay.specs.declared.progress.ThreadProgress.{ThreadProgress}
use Rattle.replay.specs.Readers.{calls_by, IsAfter}
use Rattle.replay.specs.declared.callers.Callers.{Callers}
use Rattle.replay.specs.declared.callers.Callers.TheVariants.{Scripts, Anyone}
use Rattle.replay.specs.Working.Reading.{called_at, least_at, AreSeats, AreThreads, IsThread}
use Rattle.replay.specs.Working.Seats.{IsWithSeat, empty_seat, seat_in}

-- ---- counting

-- one more call of a thread
pub calls_by_one : (t u : ℕ) (order : List ℕ) → u ≡ t → calls_by t (order ++ u ∷ []) ≡ calls_by t order + 1
calls_by_one t u order same =
    let test = eq-eqb u t same in
    let one : calls_by t (u ∷ []) ≡ 1 = rw test refl in
    sum_by-append _ order (u ∷ []) ∙ rw one refl

-- the count of another thread stays
pub calls_by_other : (t u : ℕ) (order : List ℕ) → (u ≡ t → ⊥) → calls_by t (order ++ u ∷ []) ≡ calls_by t order
calls_by_other t u order apart =
    let test = ne_eqb u t apart in
    let none : calls_by t (u ∷ []) ≡ 0 = rw test refl in
    sum_by-append _ order (u ∷ []) ∙ rw none (omega arith)

-- ---- the begin of the next call

after_own : (t : ℕ) (order : List ℕ) (begun : ℕ) → IsAfter (order ++ t ∷ []) t begun ↔ (length order + 1 ≤ begun)
after_own t order begun = (
  λ after. let h = after (length order) (behind_at order t []) in omega (arith, h),
  λ most k is.
      let h = slice_get_within (order ++ t ∷ []) k t is in
      let long = length_push order t in
      omega (arith, h, long, most),
)

after_other : (t u : ℕ) (order : List ℕ) (begun : ℕ) → (u ≡ t → ⊥) →
    IsAfter (order ++ u ∷ []) t begun ↔ IsAfter order t begun
after_other t u order begun apart = (
  λ after k is. after k (still_at order (u ∷ []) k t is),
  λ after k is. elim (pushed_at order u k t is) [ inl h ↦ after k h | inr h ↦ absurd (apart h.1) ],
)

-- ---- seats

-- before the first call
pub seats_start : (seats : BTreeMap ℕ ThreadProgress) → seats.entries ≡ [] → AreSeats seats []
seats_start seats none =
    let empty : (t : ℕ) → seat_in seats t ≡ empty_seat = λ t. ap (λ es. unwrap_or (lookup (is_at (nat_cmp t)) es) empty_seat) none in
    record {
      called = λ t. ap (λ (s : ThreadProgress). s.called) (empty t);
      least = λ t begun. let e = ap (λ (s : ThreadProgress). s.least) (empty t) in (λ after. omega (arith, e), λ most k is. absurd (cc));
    }

module _ (old new : BTreeMap ℕ ThreadProgress) (order : List ℕ) (t : ℕ) (seat : ThreadProgress) (are : AreSeats old order) (with : IsWithSeat t seat old new) where
  called_next : seat.called ≡ called_at old t + 1 → (u : ℕ) → called_at new u ≡ calls_by u (order ++ t ∷ [])
  called_next more u = elim (cases_eq t u) [
    | inl same ↦
        subst (λ v. called_at new v ≡ calls_by v (order ++ t ∷ [])) same
        (ap (λ (s : ThreadProgress). s.called) with.here ∙ more ∙ ap (λ n. n + 1) (are.called t) ∙ sym (calls_by_one t t order refl))
    | inr apart ↦
        ap (λ (s : ThreadProgress). s.called) (with.others u (λ e. apart (sym e))) ∙ are.called u ∙ sym (calls_by_other u t order apart)
  ]

  least_next : seat.least ≡ length order + 1 → (u begun : ℕ) →
      IsAfter (order ++ t ∷ []) u begun ↔ (least_at new u ≤ begun)
  least_next least u begun = elim (cases_eq t u) [
    | inl same ↦
        let here = ap (λ (s : ThreadProgress). s.least) with.here in
        let own = after_own t order begun in
        subst (λ v. IsAfter (order ++ t ∷ []) v begun ↔ (least_at new v ≤ begun)) same
        (λ after. let h = own.0 after in omega (arith, h, here, least), λ most. own.1 (omega (arith, most, here, least)))
    | inr apart ↦
        let there = ap (λ (s : ThreadProgress). s.least) (with.others u (λ e. apart (sym e))) in
        let other = after_other u t order begun apart in
        let kept = are.least u begun in
        (λ after. let h = kept.0 (other.0 after) in omega (arith, h, there), λ most. other.1 (kept.1 (omega (arith, most, there))))
  ]

  -- one more call of a thread
  pub seats_next : seat.called ≡ called_at old t + 1 → seat.least ≡ length order + 1 → AreSeats new (order ++ t ∷ [])
  seats_next more least = record { called = called_next more; least = least_next least }

-- the bounds of the seats after the call
module _ (old new : BTreeMap ℕ ThreadProgress) (t : ℕ) (seat : ThreadProgress) (with : IsWithSeat t seat old new) where
  pub few_next : (position : ℕ) → ((u : ℕ) → called_at old u ≤ position) → seat.called ≤ position + 1 → (u : ℕ) →
      called_at new u ≤ position + 1
  few_next position few most u = elim (cases_eq u t) [
    | inl same ↦
        let here : called_at new u ≡ seat.called = ap (called_at new) same ∙ ap (λ (s : ThreadProgress). s.called) with.here in
        omega (arith, here, most)
    | inr apart ↦
        let there : called_at new u ≡ called_at old u = ap (λ (s : ThreadProgress). s.called) (with.others u apart) in
        let h = few u in
        omega (arith, there, h)
  ]

  pub threads_next : (callers : Callers) (program : Typed) → AreThreads callers program old → IsThread callers program t →
      AreThreads callers program new
  threads_next Scripts program are is = λ u past.
      ap (λ (s : ThreadProgress). s.called) (with.others u (λ same. absurd (omega (arith, same, past, is)))) ∙ are u past
  threads_next Anyone program are is = tt
