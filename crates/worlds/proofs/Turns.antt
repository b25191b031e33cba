-- One step of a thread, by its cases.
use Rattle.std.proofs.Common.{◌≡◌, ◌∙◌, ℕ, true, List, [], ◌∷◌, length, slice_get, Option, Some, None, refl, sym, ap}
use Rattle.core_lang.specs.declared.value.Outcome.{Outcome}
use Rattle.core_lang.specs.Serial.{Invocation}
use Rattle.locks.specs.declared.lock.Lock.{Lock}
use Rattle.lowering.specs.Plans.{Plan}
use Rattle.worlds.specs.declared.event.Event.{Event}
use Rattle.worlds.specs.declared.event.Event.TheVariants.{Idle, Began, Got, Waits, Moved, Ended}
use Rattle.worlds.specs.Worlds.{World, ThreadState, Activation, HasOpen, activation, with_active, holder, asks, ends}
use Rattle.worlds.specs.Worlds.{instructed, next_effect, begins, goes_on, steps_with, thread_steps, happens, call_at}

-- the thread has this open section
pub record Active (w : World) (t : ℕ) (thread : ThreadState) (a : Activation) : Type 0 where
  pub at : slice_get w.threads t ≡ Some thread
  pub is : thread.active ≡ Some a

-- a thread has at most one open section
pub same_open : (w : World) (t : ℕ) (thread : ThreadState) (a b : Activation) → Active w t thread a → HasOpen w t b → a ≡ b
same_open w t thread a b at o =
    let same : thread ≡ o.0 = (let e : Some thread ≡ Some o.0 = sym at.at ∙ o.1 in cc e) in
    let e : Some a ≡ Some b = sym at.is ∙ (ap (λ x. x.active) same ∙ o.2) in
    cc e

-- a step of a thread gives an event and a world
pub data Turn (plan : Plan) (w : World) (t : ℕ) : Event → World → Type 0 where
  idles : Turn plan w t Idle w
  starts : {thread : ThreadState} {call : Invocation} → slice_get w.threads t ≡ Some thread → thread.active ≡ None →
      call_at plan t thread.step ≡ Some call →
      Turn plan w t Began (with_active w t thread (activation plan (length w.history) call))
  gets : {thread : ThreadState} {a : Activation} {lock : Lock} {rest : List Lock} → Active w t thread a →
      a.pending ≡ lock ∷ rest → holder w lock ≡ None →
      Turn plan w t (Got lock) (asks plan w t thread a lock rest None).1
  waits : {thread : ThreadState} {a : Activation} {lock : Lock} {rest : List Lock} {h : ℕ} → Active w t thread a →
      a.pending ≡ lock ∷ rest → holder w lock ≡ Some h →
      Turn plan w t (Waits lock h) (with_active w t thread (record a { asked = true }))
  over : {thread : ThreadState} {a : Activation} {outcome : Outcome} → Active w t thread a → a.pending ≡ [] →
      a.outcome ≡ Some outcome → Turn plan w t (Ended (length w.history)) (ends w t thread a outcome).1
  moves : {thread : ThreadState} {a : Activation} → Active w t thread a → a.pending ≡ [] → a.outcome ≡ None →
      Turn plan w t Moved (with_active w t thread (instructed plan a (next_effect plan a)))

-- a step's result, as a turn
abbrev IsTurn : Plan → World → ℕ → Event × World → Type 0
IsTurn plan w t r = Turn plan w t r.0 r.1

begins_turn : (plan : Plan) (w : World) (t : ℕ) (thread : ThreadState) (x : Option Invocation) →
    slice_get w.threads t ≡ Some thread → thread.active ≡ None → call_at plan t thread.step ≡ x →
    IsTurn plan w t (begins plan w t thread x)
begins_turn plan w t thread None at is e = idles
begins_turn plan w t thread (Some call) at is e = starts at is e

asks_turn : (plan : Plan) (w : World) (t : ℕ) (thread : ThreadState) (a : Activation) (lock : Lock) (rest : List Lock)
    (x : Option ℕ) → Active w t thread a → a.pending ≡ lock ∷ rest → holder w lock ≡ x →
    IsTurn plan w t (asks plan w t thread a lock rest x)
asks_turn plan w t thread a lock rest None is e h = gets is e h
asks_turn plan w t thread a lock rest (Some k) is e h = waits is e h

goes_turn : (plan : Plan) (w : World) (t : ℕ) (thread : ThreadState) (a : Activation) (locks : List Lock)
    (x : Option Outcome) → Active w t thread a → a.pending ≡ locks → a.outcome ≡ x →
    IsTurn plan w t (goes_on plan w t thread a locks x)
goes_turn plan w t thread a (lock ∷ rest) x is e o = asks_turn plan w t thread a lock rest (holder w lock) is e refl
goes_turn plan w t thread a [] (Some outcome) is e o = over is e o
goes_turn plan w t thread a [] None is e o = moves is e o

thread_turn : (plan : Plan) (w : World) (t : ℕ) (thread : ThreadState) (x : Option Activation) →
    slice_get w.threads t ≡ Some thread → thread.active ≡ x → IsTurn plan w t (steps_with plan w t thread x)
thread_turn plan w t thread None at is = begins_turn plan w t thread (call_at plan t thread.step) at is refl
thread_turn plan w t thread (Some a) at is =
    goes_turn plan w t thread a a.pending a.outcome (record { at = at; is = is }) refl refl

any_turn : (plan : Plan) (w : World) (t : ℕ) (x : Option ThreadState) → slice_get w.threads t ≡ x →
    IsTurn plan w t (thread_steps plan w t x)
any_turn plan w t None e = idles
any_turn plan w t (Some thread) e = thread_turn plan w t thread thread.active e refl

pub turn : (plan : Plan) (w : World) (t : ℕ) → Turn plan w t (happens plan w t).0 (happens plan w t).1
turn plan w t = any_turn plan w t (slice_get w.threads t) refl
