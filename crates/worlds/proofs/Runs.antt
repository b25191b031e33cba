-- Each end has its begin, and each entry its end.
use Rattle.std.proofs.Common.{◌≡◌, ◌⊎◌, ◌<◌, ℕ, zero, suc, ◌+◌, List, [], ◌∷◌, slice_get, Some, None, refl, sym, ap}
use Rattle.std.proofs.Common.{◌∙◌, subst, arith, inl, inr}
use Rattle.std.proofs.lemmas.Bool.{cases_eq}
use Rattle.history.specs.Commits.{Commit}
use Rattle.lowering.specs.Plans.{Plan}
use Rattle.worlds.specs.declared.event.Event.{Event}
use Rattle.worlds.specs.declared.event.Event.TheVariants.{Began, Ended}
use Rattle.worlds.specs.Worlds.{World, Activation, HasOpen, commit, scripts, happens, world_after, events}
use Rattle.worlds.specs.Worlds.{opening_world}
use Rattle.worlds.specs.Claims.{IsSectionRun, EndsAreRuns}
use Rattle.worlds.proofs.Turns.{Turn, idles, starts, gets, waits, over, moves, turn}
use Rattle.worlds.proofs.Places.{get_set_is, get_push}
use Rattle.worlds.proofs.Ends.{others_stay}
use Rattle.worlds.proofs.Scripts.{at_first_is}

-- a section of the thread is open
abbrev IsOpen : World → ℕ → Type 0
IsOpen w t = (a : Activation) × HasOpen w t a

-- ---- one step

-- a section that is open after a step of its thread was open before it, or begins with the step
open_before : (plan : Plan) (w : World) (t : ℕ) (e : Event) (after : World) → Turn plan w t e after → IsOpen after t →
    (e ≡ Began) ⊎ (IsOpen w t × ((p : ℕ) → e ≡ Ended p → ⊥))
open_before plan w t e after idles o = inr (o, λ p h. absurd cc)
open_before plan w t e after (starts at is call) o = inl refl
open_before plan w t e after (gets {thread} {a} at want free) o = inr ((a, (thread, at.at, at.is)), λ p h. absurd cc)
open_before plan w t e after (waits {thread} {a} at want busy) o = inr ((a, (thread, at.at, at.is)), λ p h. absurd cc)
open_before plan w t e after (over {thread} at none out) o =
    let now : record { step = thread.step + 1; active = None } ≡ o.1.0 = get_set_is w.threads t _ o.1.0 o.1.1 in
    absurd (let bad : None ≡ Some o.0 = ap (λ x. x.active) now ∙ o.1.2 in cc bad)
open_before plan w t e after (moves {thread} {a} at none out) o = inr ((a, (thread, at.at, at.is)), λ p h. absurd cc)

-- the same for a step of any thread
open_before_any : (plan : Plan) (w : World) (u t : ℕ) → IsOpen (happens plan w u).1 t →
    ((u ≡ t) × ((happens plan w u).0 ≡ Began))
    ⊎ (IsOpen w t × ((p : ℕ) → u ≡ t → (happens plan w u).0 ≡ Ended p → ⊥))
open_before_any plan w u t o = elim (cases_eq u t) [
  | inl e ↦ elim (open_before plan w u (happens plan w u).0 (happens plan w u).1 (turn plan w u)
      (subst (λ (k : ℕ). IsOpen (happens plan w u).1 k) (sym e) o)) [
        | inl began ↦ inl (e, began)
        | inr still ↦ inr (subst (λ (k : ℕ). IsOpen w k) e still.0, λ p same h. still.1 p h)
      ]
  | inr ne ↦ inr (
    (o.0, (o.1.0, sym (others_stay plan w u (happens plan w u).0 (happens plan w u).1 (turn plan w u) t ne) ∙ o.1.1, o.1.2)),
    λ p same h. ne same,
  )
]

ends_open : (plan : Plan) (w : World) (t : ℕ) (e : Event) (after : World) → Turn plan w t e after → (p : ℕ) →
    e ≡ Ended p → IsOpen w t
ends_open plan w t e after idles p h = absurd cc
ends_open plan w t e after (starts at is call) p h = absurd cc
ends_open plan w t e after (gets at want free) p h = absurd cc
ends_open plan w t e after (waits at want busy) p h = absurd cc
ends_open plan w t e after (over {thread} {a} at none out) p h = (a, (thread, at.at, at.is))
ends_open plan w t e after (moves at none out) p h = absurd cc

-- an entry was there, or its thread's section ends with the step
entry_before : (plan : Plan) (w : World) (t : ℕ) (e : Event) (after : World) → Turn plan w t e after →
    (p : ℕ) (c : Commit) →
    slice_get after.history p ≡ Some c → (slice_get w.history p ≡ Some c) ⊎ ((t ≡ c.thread) × (e ≡ Ended p))
entry_before plan w t e after idles p c h = inl h
entry_before plan w t e after (starts at is call) p c h = inl h
entry_before plan w t e after (gets at want free) p c h = inl h
entry_before plan w t e after (waits at want busy) p c h = inl h
entry_before plan w t e after (over {thread} {a} {outcome} at none out) p c h =
    elim (get_push w.history (commit t thread.step a outcome) c p h) [
      | inl old ↦ inl old
      | inr new ↦ inr (ap (λ x. x.thread) new.0, ap (λ (n : ℕ). Ended n) new.1)
    ]
entry_before plan w t e after (moves at none out) p c h = inl h

-- ---- runs

-- no step of the thread between steps `b` and `e` ends a section
abbrev NoneEndsBetween : Plan → World → List ℕ → ℕ → ℕ → ℕ → Type 0
NoneEndsBetween plan w steps t b e =
    (k q : ℕ) → b < k → k < e → slice_get steps k ≡ Some t → slice_get (events plan w steps) k ≡ Some (Ended q) → ⊥

-- no step of the thread before step `e` ends a section
abbrev NoneEnds : Plan → World → List ℕ → ℕ → ℕ → Type 0
NoneEnds plan w steps t e =
    (k q : ℕ) → k < e → slice_get steps k ≡ Some t → slice_get (events plan w steps) k ≡ Some (Ended q) → ⊥

-- with one of these steps the thread's section begins
abbrev Begins : Plan → World → List ℕ → ℕ → ℕ → Type 0
Begins plan w steps t e =
    (b : ℕ) × (b < e) × (slice_get steps b ≡ Some t) × (slice_get (events plan w steps) b ≡ Some Began)
    × NoneEndsBetween plan w steps t b e

between_later : (plan : Plan) (w : World) (u : ℕ) (us : List ℕ) (t b e : ℕ) →
    NoneEndsBetween plan (happens plan w u).1 us t b e →
    NoneEndsBetween plan w (u ∷ us) t (suc b) (suc e)
between_later plan w u us t b e none zero q l m h g = absurd (omega (arith, l))
between_later plan w u us t b e none (suc k) q l m h g = none k q (omega (arith, l)) (omega (arith, m)) h g

between_first : (plan : Plan) (w : World) (u : ℕ) (us : List ℕ) (t e : ℕ) → NoneEnds plan (happens plan w u).1 us t e →
    NoneEndsBetween plan w (u ∷ us) t 0 (suc e)
between_first plan w u us t e none zero q l m h g = absurd (omega (arith, l))
between_first plan w u us t e none (suc k) q l m h g = none k q (omega (arith, m)) h g

none_with : (plan : Plan) (w : World) (u : ℕ) (us : List ℕ) (t e : ℕ) →
    ((p : ℕ) → u ≡ t → (happens plan w u).0 ≡ Ended p → ⊥) →
    NoneEnds plan (happens plan w u).1 us t e → NoneEnds plan w (u ∷ us) t (suc e)
none_with plan w u us t e not none zero q m h g =
    let same : u ≡ t = cc in
    let now : (happens plan w u).0 ≡ Ended q = cc in
    not q same now
none_with plan w u us t e not none (suc k) q m h g = none k q (omega (arith, m)) h g

-- a section that ends began with one of the steps, or was open before them
begins_or_open : (plan : Plan) (w : World) (steps : List ℕ) (t e p : ℕ) → slice_get steps e ≡ Some t →
    slice_get (events plan w steps) e ≡ Some (Ended p) → Begins plan w steps t e ⊎ (IsOpen w t × NoneEnds plan w steps t e)
begins_or_open plan w [] t e p at ended = absurd cc
begins_or_open plan w (u ∷ us) t zero p at ended =
    let mine : u ≡ t = cc in
    let now : (happens plan w u).0 ≡ Ended p = cc in
    inr (
      subst (λ (k : ℕ). IsOpen w k) mine (ends_open plan w u (happens plan w u).0 (happens plan w u).1 (turn plan w u) p now),
      λ k q less h g. absurd (omega (arith, less)),
    )
begins_or_open plan w (u ∷ us) t (suc e) p at ended = elim (begins_or_open plan (happens plan w u).1 us t e p at ended) [
  | inl x ↦ (let less = x.1 in inl (suc x.0, omega (arith, less), x.2, x.3, between_later plan w u us t x.0 e x.4))
  | inr x ↦ elim (open_before_any plan w u t x.0) [
    | inl began ↦ inl (
      0,
      omega arith,
      ap (λ (k : ℕ). Some k) began.0,
      ap (λ (v : Event). Some v) began.1,
      between_first plan w u us t e x.1,
    )
    | inr still ↦ inr (still.0, none_with plan w u us t e still.1 x.1)
  ]
]

-- an entry was there before these steps, or one of them is its end
entry_or_end : (plan : Plan) (w : World) (steps : List ℕ) (p : ℕ) (c : Commit) →
    slice_get (world_after plan w steps).history p ≡ Some c →
    (slice_get w.history p ≡ Some c)
    ⊎ ((e : ℕ) × (slice_get steps e ≡ Some c.thread) × (slice_get (events plan w steps) e ≡ Some (Ended p)))
entry_or_end plan w [] p c h = inl h
entry_or_end plan w (t ∷ ts) p c h = elim (entry_or_end plan (happens plan w t).1 ts p c h) [
  | inl old ↦ elim (entry_before plan w t (happens plan w t).0 (happens plan w t).1 (turn plan w t) p c old) [
    | inl older ↦ inl older
    | inr now ↦ inr (0, ap (λ (k : ℕ). Some k) now.0, ap (λ (v : Event). Some v) now.1)
  ]
  | inr x ↦ inr (suc x.0, x.1, x.2)
]

-- at first no section is open
none_open : (plan : Plan) (t : ℕ) → IsOpen (opening_world plan) t → ⊥
none_open plan t o =
    let bad : None ≡ Some o.0 = ap (λ x. x.active) (sym (at_first_is (scripts plan) t o.1.0 o.1.1)) ∙ o.1.2 in cc bad

-- ---- the whole

begun_of : (plan : Plan) (steps : List ℕ) (t e p : ℕ) → slice_get steps e ≡ Some t →
    slice_get (events plan (opening_world plan) steps) e ≡ Some (Ended p) → Begins plan (opening_world plan) steps t e
begun_of plan steps t e p at ended = elim (begins_or_open plan (opening_world plan) steps t e p at ended) [
  | inl x ↦ x
  | inr x ↦ absurd (none_open plan t x.0)
]

end_of : (plan : Plan) (steps : List ℕ) (p : ℕ) (c : Commit) →
    slice_get (world_after plan (opening_world plan) steps).history p ≡ Some c →
    (e : ℕ) × (slice_get steps e ≡ Some c.thread) × (slice_get (events plan (opening_world plan) steps) e ≡ Some (Ended p))
end_of plan steps p c h = elim (entry_or_end plan (opening_world plan) steps p c h) [
  | inl old ↦ absurd cc
  | inr x ↦ x
]

pub ends_are_runs : (plan : Plan) (steps : List ℕ) → EndsAreRuns plan steps
ends_are_runs plan steps =
    let has : (t e p : ℕ) → slice_get steps e ≡ Some t → slice_get (events plan (opening_world plan) steps) e ≡ Some (Ended p) →
    (b : ℕ) × IsSectionRun plan steps t b e p =
    λ t e p at ended. let x = begun_of plan steps t e p at ended in (
      x.0,
      record { later = x.1; begins_it = x.2; ends_it = at; began = x.3; ended = ended; only = λ k q l m h g. x.4 k q l m h g },
    ) in
    record {
      has_begun = has;
      has_ended = λ p c h. let x = end_of plan steps p c h in let b = has c.thread x.0 p x.1 x.2 in (b.0, x.0, b.1);
    }
