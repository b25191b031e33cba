-- The holder of a lock, by the manager and by the world.
use Rattle.std.proofs.Common.{◌≡◌, ℕ, zero, suc, ◌+◌, true, false, if◌then◌else◌, List, [], ◌∷◌, map, Option, Some}
use Rattle.std.proofs.Common.{None, inl, inr, refl, sym, ap, ◌∙◌, subst, arith, true≢false}
use Rattle.std.specs.Prelude.{slice_get}
use Rattle.std.specs.Option.{option_map_or}
use Rattle.std.specs.List.{Contains}
use Rattle.std.proofs.lemmas.Bool.{cases_Bool}
use Rattle.std.proofs.lemmas.Option.{none-some}
use Rattle.core_lang.specs.Typing.{lookup}
use Rattle.locks.specs.declared.lock.Lock.{Lock}
use Rattle.lock_manager.specs.declared.places.LockPlace.{LockPlace}
use Rattle.lock_manager.specs.declared.places.LockPlace.TheVariants.{Free, Taken}
use Rattle.lock_manager.specs.Manager.{SessionOf, Managed, session_in}
use Rattle.lock_manager.specs.Working.Managers.{IsKept, Holds, place_of, holder_of, taker}
use Rattle.runner.specs.Working.Opens.{OpenOf, session_of_open}
use Rattle.locks.specs.Locks.{among}
use Rattle.worlds.specs.Worlds.{World, ThreadState, Activation, HasOpen, holds, holder_from, holder}
use Rattle.interleavings.specs.declared.state.TypedState.{TypedState}
use Rattle.interleavings.specs.declared.state.TypedState.TheVariants as state
use Rattle.interleavings.specs.Working.States.{thread_of, open_thread, session_of_state, session_at}
use Rattle.locks.specs.Theory.Order.{contains_among, among_contains}
use Rattle.core_lang.specs.Theory.Items.{lookup_some, some_same, map_at, map_back}

-- ---- a state with an open section

pub record ShowsOpen (x : TypedState) : Type 0 where
  pub section : OpenOf
  pub thread : thread_of x ≡ open_thread section
  pub session : session_of_state x ≡ Some (session_of_open section)

by_thread : (x : TypedState) (a : Activation) → (thread_of x).active ≡ Some a → ShowsOpen x
by_thread state.Away a e = absurd (none-some a e)
by_thread (state.Ready r) a e = absurd (none-some a e)
by_thread (state.Running o) a e = record { section = o; thread = refl; session = refl }
by_thread (state.Asking o) a e = record { section = o; thread = refl; session = refl }
by_thread (state.Ended o) a e = record { section = o; thread = refl; session = refl }

by_session : (x : TypedState) (s : SessionOf) → session_of_state x ≡ Some s → ShowsOpen x
by_session state.Away s e = absurd (none-some s e)
by_session (state.Ready r) s e = absurd (none-some s e)
by_session (state.Running o) s e = record { section = o; thread = refl; session = refl }
by_session (state.Asking o) s e = record { section = o; thread = refl; session = refl }
by_session (state.Ended o) s e = record { section = o; thread = refl; session = refl }

-- ---- over a world whose threads are these states, and slots that have their sessions

module _ (w : World) (slots : List (Option SessionOf)) (states : List TypedState) (threads : w.threads ≡ map thread_of states)
    (sessions : (t : ℕ) → session_in slots t ≡ session_at states t) where
  -- the session of a thread holds each lock that its section holds
  pub open_holds : (t : ℕ) (a : Activation) (lock : Lock) → HasOpen w t a → Contains a.held lock → Holds slots t lock
  open_holds t a lock (thread, at, active) c =
      let x = map_back thread_of states t thread (sym (ap (λ ts. slice_get ts t) threads) ∙ at) in
      let o = by_thread x.0 a (ap (λ (q : ThreadState). q.active) x.2 ∙ active) in
      let same : o.section.activation ≡ a =
      some_same o.section.activation a (sym (ap (λ (q : ThreadState). q.active) o.thread) ∙ ap (λ (q : ThreadState). q.active) x.2 ∙ active) in
      record {
        session = session_of_open o.section;
        is = sessions t ∙ ap (λ r. lookup r session_of_state) x.1 ∙ o.session;
        held = subst (λ (b : Activation). Contains b.held lock) (sym same) c;
      }

  -- the converse: a thread whose session holds a lock has a section that holds it
  pub record IsOpenWith (t : ℕ) (lock : Lock) : Type 0 where
    pub section : Activation
    pub is_open : HasOpen w t section
    pub held : Contains section.held lock

  pub holds_open : (t : ℕ) (lock : Lock) → Holds slots t lock → IsOpenWith t lock
  holds_open t lock h =
      let x = lookup_some (slice_get states t) session_of_state h.session (sym (sessions t) ∙ h.is) in
      let o = by_session x.0 h.session x.2 in
      let same = some_same h.session (session_of_open o.section) (sym x.2 ∙ o.session) in
      record {
        section = o.section.activation;
        is_open = (thread_of x.0, ap (λ ts. slice_get ts t) threads ∙ map_at thread_of states t x.0 x.1, ap (λ (q : ThreadState). q.active) o.thread);
        held = subst (λ (s : SessionOf). Contains s.held lock) same h.held;
      }

-- ---- the first thread that holds a lock

record Found (k : ℕ) (threads : List ThreadState) (lock : Lock) (u : ℕ) : Type 0 where
  place : ℕ
  number : u ≡ k + place
  thread : ThreadState
  is : slice_get threads place ≡ Some thread
  has : holds lock thread ≡ true

found : (k : ℕ) (threads : List ThreadState) (lock : Lock) (u : ℕ) → holder_from k threads lock ≡ Some u →
    Found k threads lock u
found k [] lock u e = absurd (none-some u e)
found k (x ∷ xs) lock u e = elim (cases_Bool (holds lock x)) [
  | inl h ↦ (
      let here : Some k ≡ Some u = sym (ap (λ b. if b then Some k else holder_from (k + 1) xs lock) h) ∙ e in
      let same : k ≡ u = cc in
      record { place = 0; number = omega (arith, same); thread = x; is = refl; has = h })
  | inr h ↦ (
      let r = found (k + 1) xs lock u (sym (ap (λ b. if b then Some k else holder_from (k + 1) xs lock) h) ∙ e) in
      record { place = suc r.place; number = omega (arith, r.number); thread = r.thread; is = r.is; has = r.has })
]

not_first : (x : ThreadState) (xs : List ThreadState) (lock : Lock) (i : ℕ) (thread : ThreadState) →
    slice_get (x ∷ xs) i ≡ Some thread → holds lock x ≡ false → holds lock thread ≡ true →
    ((j : ℕ) → slice_get xs j ≡ Some thread → ⊥) → ⊥
not_first x xs lock zero thread at f h go = let same : x ≡ thread = cc in true≢false (sym h ∙ ap (holds lock) (sym same) ∙ f)
not_first x xs lock (suc j) thread at f h go = go j at

not_found : (k : ℕ) (threads : List ThreadState) (lock : Lock) (i : ℕ) (thread : ThreadState) →
    holder_from k threads lock ≡ None →
    slice_get threads i ≡ Some thread → holds lock thread ≡ true → ⊥
not_found k [] lock i thread e at h = none-some thread at
not_found k (x ∷ xs) lock i thread e at h = elim (cases_Bool (holds lock x)) [
  | inl t ↦ none-some k (sym e ∙ ap (λ b. if b then Some k else holder_from (k + 1) xs lock) t)
  | inr f ↦ (
      let rest : holder_from (k + 1) xs lock ≡ None = sym (ap (λ b. if b then Some k else holder_from (k + 1) xs lock) f) ∙ e in
      not_first x xs lock i thread at f h (λ j there. not_found (k + 1) xs lock j thread rest there h))
]

holding : (lock : Lock) (o : Option Activation) → option_map_or (λ (a : Activation). among a.held lock) o false ≡ true →
    (a : Activation) × (o ≡ Some a) × (among a.held lock ≡ true)
holding lock None e = absurd (true≢false (sym e))
holding lock (Some a) e = (a, refl, e)

-- the manager's holder of a lock is the world's
module _ (m : Managed) (w : World) (states : List TypedState) (kept : IsKept m) (threads : w.threads ≡ map thread_of states)
    (sessions : (t : ℕ) → session_in m.slots t ≡ session_at states t)
    (apart : (t u : ℕ) (a b : Activation) (lock : Lock) → HasOpen w t a → HasOpen w u b → among a.held lock ≡ true → among b.held lock ≡ true → t ≡ u) where
  -- a thread that is found as the holder holds the lock
  found_takes : (lock : Lock) (u : ℕ) → holder w lock ≡ Some u → place_of m lock ≡ Some (Taken u)
  found_takes lock u e =
      let r = found 0 w.threads lock u e in
      let a = holding lock r.thread.active r.has in
      let same : r.place ≡ u = omega (arith, r.number) in
      let is_open : HasOpen w u a.0 = (r.thread, ap (slice_get w.threads) (sym same) ∙ r.is, a.1) in
      kept.held lock u (open_holds w m.slots states threads sessions u a.0 lock is_open (among_contains a.0.held lock a.2))

  same_holder : (lock : Lock) (p : Option LockPlace) (q : Option ℕ) → place_of m lock ≡ p → holder w lock ≡ q →
      q ≡ taker p
  same_holder lock p (Some u) at h = ap taker (sym (found_takes lock u h) ∙ at)
  same_holder lock None None at h = refl
  same_holder lock (Some (Free values)) None at h = refl
  same_holder lock (Some (Taken t)) None at h =
      let o = holds_open w m.slots states threads sessions t lock (kept.taken lock t at) in
      absurd (not_found 0 w.threads lock t o.is_open.0 h o.is_open.1
      (ap (λ q. option_map_or (λ (a : Activation). among a.held lock) q false) o.is_open.2 ∙ contains_among o.section.held lock o.held))

  pub holder_is : (lock : Lock) → holder w lock ≡ holder_of m lock
  holder_is lock = same_holder lock (place_of m lock) (holder w lock) refl refl
