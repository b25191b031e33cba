-- Steps of a world, as needed here: the parts that each step keeps, and the cells that it moves.
use Rattle.std.proofs.Common.{◌≡◌, ◌⊎◌, ℕ, suc, ◌+◌, true, List, [], ◌∷◌, ◌++◌, length, Option, Some, None}
use Rattle.std.proofs.Common.{slice_get, refl, sym, ap, ◌∙◌, inl, inr, nat_eq}
use Rattle.std.proofs.lemmas.Bool.{cases_Bool, cond-true, cond-false, eq-eqb, eqb-true, ne_eqb}
use Rattle.std.proofs.lemmas.List.{length-set}
use Rattle.std.proofs.lemmas.Option.{none-some}
use Rattle.core_lang.specs.declared.value.Value.{Value}
use Rattle.core_lang.specs.declared.value.Outcome.{Outcome}
use Rattle.core_lang.specs.Serial.{Invocation}
use Rattle.locks.specs.declared.lock.Lock.{Lock}
use Rattle.code.specs.Memory.{value_at}
use Rattle.code.specs.Theory.Values.{value_left, value_right}
use Rattle.lowering.specs.Plans.{Plan}
use Rattle.worlds.specs.Worlds.{World, ThreadState, Activation, activation, with_active, holds, holder_from, holder, asks, begins, ends}
use Rattle.worlds.specs.Worlds.{with_taken, taken, without, with_back, goes_on, steps_with, thread_steps, happens, instructed, next_effect, call_at}
use Rattle.c_threads.proofs.Lists.{set_cases}
use Rattle.c_threads.proofs.Shared.{some_or_none}

-- ---- one step

module _ (plan : Plan) (w : World) (t : ℕ) (thread : ThreadState) (at : slice_get w.threads t ≡ Some thread) where
  with_thread_at : happens plan w t ≡ steps_with plan w t thread thread.active
  with_thread_at = ap (thread_steps plan w t) at

  pub happens_begins : (call : Invocation) → thread.active ≡ None → call_at plan t thread.step ≡ Some call →
      (happens plan w t).1 ≡ with_active w t thread (activation plan (length w.history) call)
  happens_begins call none called =
      ap (λ r. r.1) (with_thread_at ∙ (ap (steps_with plan w t thread) none ∙ ap (begins plan w t thread) called))

  module _ (a : Activation) (is : thread.active ≡ Some a) where
    with_section : happens plan w t ≡ goes_on plan w t thread a a.pending a.outcome
    with_section = with_thread_at ∙ ap (steps_with plan w t thread) is

    pub happens_asks : (lock : Lock) (rest : List Lock) → a.pending ≡ lock ∷ rest → happens plan w t ≡ asks plan w t thread a lock rest (holder w lock)
    happens_asks lock rest e = with_section ∙ ap (λ p. goes_on plan w t thread a p a.outcome) e

    pub happens_gets : (lock : Lock) (rest : List Lock) → a.pending ≡ lock ∷ rest → holder w lock ≡ None →
        (happens plan w t).1 ≡ (asks plan w t thread a lock rest None).1
    happens_gets lock rest e free =
        ap (λ r. r.1) (with_section ∙ (ap (λ p. goes_on plan w t thread a p a.outcome) e ∙ ap (asks plan w t thread a lock rest) free))

    pub happens_ends : (outcome : Outcome) → a.pending ≡ [] → a.outcome ≡ Some outcome → (happens plan w t).1 ≡ (ends w t thread a outcome).1
    happens_ends outcome none out =
        ap (λ r. r.1) (with_section ∙ (ap (λ p. goes_on plan w t thread a p a.outcome) none ∙ ap (goes_on plan w t thread a []) out))

    pub happens_moves : a.pending ≡ [] → a.outcome ≡ None →
        (happens plan w t).1 ≡ with_active w t thread (instructed plan a (next_effect plan a))
    happens_moves none out =
        ap (λ r. r.1) (with_section ∙ (ap (λ p. goes_on plan w t thread a p a.outcome) none ∙ ap (goes_on plan w t thread a []) out))

-- ---- who holds a lock

-- a lock that no thread holds has no holder
pub no_holder : (n : ℕ) (threads : List ThreadState) (lock : Lock) →
    ((t : ℕ) (thread : ThreadState) → slice_get threads t ≡ Some thread → holds lock thread ≡ true → ⊥) → holder_from n threads lock ≡ None
no_holder n [] lock none = refl
no_holder n (x ∷ xs) lock none = elim (cases_Bool (holds lock x)) [
  | inl e ↦ absurd (none 0 x refl e)
  | inr e ↦ cond-false (holds lock x) (Some n) (holder_from (n + 1) xs lock) e ∙ no_holder (n + 1) xs lock (λ t thread at h. none (suc t) thread at h)
]

-- ---- cells that move

pub value_cases : (xs ys : List (ℕ × Value)) (c : ℕ) (v : Value) → value_at (xs ++ ys) c ≡ Some v →
    (value_at xs c ≡ Some v) ⊎ (value_at ys c ≡ Some v)
value_cases xs ys c v h = elim (some_or_none (value_at xs c)) [
  | inl s ↦ inl (let same : Some s.0 ≡ Some v = sym (value_left xs ys c s.0 s.1) ∙ h in s.1 ∙ same)
  | inr n ↦ inr (sym (value_right xs ys c n) ∙ h)
]

taken_one : (d c : ℕ) (x : Option (Option Value)) (rest : List (ℕ × Value)) (v : Value) → value_at (with_taken d x rest) c ≡ Some v →
    ((d ≡ c) × (x ≡ Some (Some v))) ⊎ (value_at rest c ≡ Some v)
taken_one d c None rest v h = inr h
taken_one d c (Some None) rest v h = inr h
taken_one d c (Some (Some w)) rest v h = elim (cases_Bool (nat_eq d c)) [
  | inl e ↦ inl (eqb-true d c e, ap (λ (y : Option Value). Some y) (sym (cond-true (nat_eq d c) (Some w) (value_at rest c) e) ∙ h))
  | inr e ↦ inr (sym (cond-false (nat_eq d c) (Some w) (value_at rest c) e) ∙ h)
]

-- a cell that is taken had its value before
pub taken_only : (cells : List (Option Value)) (cs : List ℕ) (c : ℕ) (v : Value) → value_at (taken cells cs) c ≡ Some v →
    slice_get cells c ≡ Some (Some v)
taken_only cells [] c v h = absurd (none-some v h)
taken_only cells (d ∷ ds) c v h = elim (taken_one d c (slice_get cells d) (taken cells ds) v h) [
  | inl e ↦ ap (slice_get cells) (sym e.0) ∙ e.1
  | inr r ↦ taken_only cells ds c v r
]

pub length-without : (cells : List (Option Value)) (cs : List ℕ) → length (without cells cs) ≡ length cells
length-without cells [] = refl
length-without cells (c ∷ cs) = length-set (without cells cs) c None ∙ length-without cells cs

-- a cell that is left had its value before
pub without_some : (cells : List (Option Value)) (cs : List ℕ) (c : ℕ) (v : Value) → slice_get (without cells cs) c ≡ Some (Some v) →
    slice_get cells c ≡ Some (Some v)
without_some cells [] c v h = h
without_some cells (d ∷ ds) c v h = elim (set_cases (without cells ds) d None c (Some v) h) [
  | inl e ↦ absurd (none-some v e.1)
  | inr e ↦ without_some cells ds c v e.1
]

pub length-with_back : (cells : List (Option Value)) (xs : List (ℕ × Value)) → length (with_back cells xs) ≡ length cells
length-with_back cells [] = refl
length-with_back cells (x ∷ xs) = length-set (with_back cells xs) x.0 (Some x.1) ∙ length-with_back cells xs

-- a cell of the world was given back, or was there before
pub back_some : (cells : List (Option Value)) (xs : List (ℕ × Value)) (c : ℕ) (v : Value) → slice_get (with_back cells xs) c ≡ Some (Some v) →
    (value_at xs c ≡ Some v) ⊎ (slice_get cells c ≡ Some (Some v))
back_some cells [] c v h = inr h
back_some cells (x ∷ xs) c v h = elim (set_cases (with_back cells xs) x.0 (Some x.1) c (Some v) h) [
  | inl e ↦ inl (cond-true (nat_eq x.0 c) (Some x.1) (value_at xs c) (eq-eqb x.0 c e.0) ∙ e.1)
  | inr e ↦ elim (back_some cells xs c v e.1) [
    | inl q ↦ inl (cond-false (nat_eq x.0 c) (Some x.1) (value_at xs c) (ne_eqb x.0 c e.0) ∙ q)
    | inr q ↦ inr q
  ]
]
