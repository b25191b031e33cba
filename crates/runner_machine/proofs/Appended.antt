-- A lock that is granted after others.
use Rattle.std.proofs.Common.{◌≡◌, ◌⊎◌, ℕ, zero, suc, ◌+◌, ◌<◌, ◌≤◌, List, [], ◌∷◌, ◌++◌, length, take, Some}
use Rattle.std.proofs.Common.{inl, inr, refl, sym, ap, ◌∙◌, subst, arith}
use Rattle.std.specs.Prelude.{slice_get}
use Rattle.std.proofs.lemmas.Option.{none-some, same_Some, slice_get_within}
use Rattle.runner_machine.specs.declared.held_lock.HeldLock.{HeldLock}
use Rattle.runner_machine.specs.Working.Finding.{values_in, AreInRuns, RiseWithin, IsHead, IsInRun}

-- an item of a list with one more is in the list, or it is the last one
old_or_last : (hs : List HeldLock) (e : HeldLock) (i : ℕ) (x : HeldLock) → slice_get (hs ++ e ∷ []) i ≡ Some x →
    (slice_get hs i ≡ Some x) ⊎ ((i ≡ length hs) × (e ≡ x))
old_or_last [] e zero x at = inr (refl, same_Some e x at)
old_or_last [] e (suc i) x at = absurd (none-some x at)
old_or_last (d ∷ hs) e zero x at = inl at
old_or_last (d ∷ hs) e (suc i) x at = elim (old_or_last hs e i x at) [
  | inl h ↦ inl h
  | inr h ↦ inr (ap suc h.0, h.1)
]

still_in : (hs : List HeldLock) (e : HeldLock) (i : ℕ) (x : HeldLock) → i < length hs → slice_get (hs ++ e ∷ []) i ≡ Some x →
    slice_get hs i ≡ Some x
still_in hs e i x lt at = elim (old_or_last hs e i x at) [
  | inl h ↦ h
  | inr h ↦ absurd (omega (arith, lt, h.0))
]

taken : (hs : List HeldLock) (e : HeldLock) (i : ℕ) → i ≤ length hs → values_in (take i (hs ++ e ∷ [])) ≡ values_in (take i hs)
taken hs e zero le = refl
taken [] e (suc i) le = absurd (omega (arith, le))
taken (d ∷ hs) e (suc i) le = ap (λ (n : ℕ). d.count + n) (taken hs e i (omega (arith, le)))

taken_all : (hs : List HeldLock) → values_in (take (length hs) hs) ≡ values_in hs
taken_all [] = refl
taken_all (e ∷ hs) = ap (λ (n : ℕ). e.count + n) (taken_all hs)

rise_still : (hs : List HeldLock) (e : HeldLock) (head end : ℕ) → end ≤ length hs → RiseWithin hs head end →
    RiseWithin (hs ++ e ∷ []) head end
rise_still hs e head end le r = λ k m a b from lt before at too.
    r k m a b from lt before
    (still_in hs e k a (omega (arith, lt, before, le)) at)
    (still_in hs e m b (omega (arith, before, le)) too)

rise_more : (hs : List HeldLock) (e : HeldLock) (end : ℕ) → end ≡ length hs + 1 → IsHead hs e.lock e.head →
    RiseWithin (hs ++ e ∷ []) e.head end
rise_more hs e end last is = λ k m a b from lt before at too.
    let here : slice_get hs k ≡ Some a = still_in hs e k a (omega (arith, lt, before, last)) at in
    elim (old_or_last hs e m b too) [
      | inl h ↦ is.rise k m a b from lt (slice_get_within hs m b h) here h
      | inr h ↦ subst (λ (x : HeldLock). (a.lock.class ≡ x.lock.class) × (a.lock.object < x.lock.object)) h.1 (is.to k a from here)
    ]

pub appended : (hs : List HeldLock) (e : HeldLock) → AreInRuns hs → e.first ≡ values_in hs → IsHead hs e.lock e.head →
    AreInRuns (hs ++ e ∷ [])
appended hs e are first is = λ i x at. elim (old_or_last hs e i x at) [
  | inl h ↦
      let r : IsInRun hs i x = are i x h in
      let lt : i < length hs = slice_get_within hs i x h in
      record {
        first_is = r.first_is ∙ sym (taken hs e i (omega (arith, lt)));
        begun = r.begun;
        rise = rise_still hs e x.head (i + 1) (omega (arith, lt)) r.rise;
      }
  | inr h ↦
      subst (λ (y : HeldLock). IsInRun (hs ++ e ∷ []) i y) h.1 (record {
        first_is = first ∙ sym (taken_all hs) ∙ sym (taken hs e (length hs) (omega arith)) ∙ ap (λ (n : ℕ). values_in (take n (hs ++ e ∷ []))) (sym h.0);
        begun = omega (arith, is.begun, h.0);
        rise = rise_more hs e (i + 1) (omega (arith, h.0)) is;
      })
]

-- the cells of all locks are those before the last one and its own
pub whole_count : (hs : List HeldLock) (n : ℕ) (e : HeldLock) → slice_get hs n ≡ Some e → length hs ≡ n + 1 →
    values_in hs ≡ values_in (take n hs) + e.count
whole_count [] n e at last = absurd (none-some e at)
whole_count (d ∷ []) zero e at last = omega (arith, ap (λ (x : HeldLock). x.count) (same_Some d e at))
whole_count (d ∷ c ∷ hs) zero e at last = absurd (omega (arith, last))
whole_count (d ∷ hs) (suc n) e at last = omega (arith, whole_count hs n e at (omega (arith, last)))

pub count_by_last : (hs : List HeldLock) (n : ℕ) (e : HeldLock) → AreInRuns hs → slice_get hs n ≡ Some e → length hs ≡ n + 1 →
    e.first + e.count ≡ values_in hs
count_by_last hs n e are at last = let first = (are n e at).first_is in omega (arith, first, whole_count hs n e at last)
