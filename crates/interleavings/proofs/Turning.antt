-- One step of a thread's state is one step of the thread in the world, and keeps the manager and the states in
-- agreement.
use Rattle.std.proofs.Common.{◌≡◌, ◌≢◌, ℕ, ◌+◌, ◌<◌, ◌^◌, true, List, [], ◌∷◌, ◌++◌, length, map, set, Option, Some}
use Rattle.std.proofs.Common.{None, inl, inr, refl, sym, ap, ◌∙◌, subst, arith}
use Rattle.std.specs.Prelude.{slice_get, Result, Ok, Err, IfOk, OnErr}
use Rattle.std.specs.List.{Contains}
use Rattle.std.proofs.lemmas.Bool.{cases_eq}
use Rattle.std.proofs.lemmas.List.{map-set, length-set}
use Rattle.std.proofs.lemmas.Option.{slice_get_within}
use Rattle.core_lang.specs.Typing.{lookup, IsHeap}
use Rattle.locks.specs.declared.lock.Lock.{Lock}
use Rattle.locks.specs.Order.{PrecedesIsStrict}
use Rattle.layout.specs.LockCells.{cells_of}
use Rattle.layout.specs.Layouts.{AreDistinct}
use Rattle.code.specs.Machine.{Effect, Moves, Asks, Finishes, Undefined}
use Rattle.code.specs.Memory.{HeldCells}
use Rattle.moved_cells.specs.Working.Grants.{numbered}
use Rattle.moved_cells.specs.Working.Laws.{OffsetsFindValues}
use Rattle.history.specs.Commits.{Commit, committed}
use Rattle.history.specs.Working.Laws.{CommittedKeepsSize}
use Rattle.lock_manager.specs.Manager.{SessionOf}
use Rattle.lock_manager.specs.Working.Sessions.{fresh, with_lock, with_ask}
use Rattle.lock_manager.specs.Manager.{Managed, session_in, session_of}
use Rattle.lock_manager.specs.Working.Managers.{IsKept, holder_of, taker}
use Rattle.lock_manager.specs.Working.Calls.{with_session}
use Rattle.lowering.specs.Plans.{Plan}
use Rattle.source.specs.declared.memory.NoMemory.{NoMemory}
use Rattle.runner.specs.declared.states.Next.{Next}
use Rattle.runner.specs.declared.states.Next.TheVariants as next
use Rattle.runner.specs.Working.Opens.{OpenOf, ReadyOf, further, session_of_open}
use Rattle.runner.specs.Working.Answers.{open_of, IsNamed}
use Rattle.worlds.specs.declared.event.Event.{Event}
use Rattle.worlds.specs.declared.event.Event.TheVariants as event
use Rattle.worlds.specs.Waiting.{first_if}
use Rattle.worlds.specs.Worlds.{World, ThreadState, Activation, HasOpen, activation, instructed, next_effect, granted}
use Rattle.worlds.specs.Worlds.{taken, commit, call_at, holder, begins, goes_on, asks, ends, steps_with, thread_steps}
use Rattle.worlds.specs.Worlds.{happens, with_active}
use Rattle.worlds.specs.Working.States.{IsSound, StepsKeepSound}
use Rattle.worlds.specs.Working.Ahead.{IsReadyWorld, WorldsStayReady}
use Rattle.interleavings.specs.declared.state.TypedState.{TypedState}
use Rattle.interleavings.specs.declared.state.TypedState.TheVariants as state
use Rattle.interleavings.specs.Working.States.{state_of, open_thread, thread_of, session_of_state, session_at, IsOf}
use Rattle.interleavings.specs.Working.States.{IsAt, cells_seen, world_of, IsTied}
use Rattle.interleavings.specs.Working.Steps.{Begun, Moved, Got, Refused, Over, Stays, ReadySteps, RunningSteps}
use Rattle.interleavings.specs.Working.Steps.{AskingSteps, EndedSteps, Steps, Refuses, Stepped, CanStep, status_at}
use Rattle.interleavings.specs.Statuses.{calling, wanting, asking, section_status, thread_status, status_of}
use Rattle.interleavings.specs.Threads.{ThreadsOf, threads_of}
use Rattle.interleavings.proofs.Holding.{holder_is}
use Rattle.interleavings.proofs.Cells.{same_cells, taken_from}
use Rattle.interleavings.proofs.Ending.{can_end, step_within, no_ask}
use Rattle.core_lang.specs.Theory.Items.{set_same, some_same, map_at, set_other, set_itself}
use Rattle.layout.specs.Theory.Numbers.{distinct_none, distinct_push}

-- ---- the result of a step, piece by piece

-- the world's step leads to a world with the history of the manager and the threads of the states; only the session of
-- the thread `t` has changed, and its state is right
record Turn (plan : Plan) (m : Managed) (states : List TypedState) (t : ℕ) (e : Event) (x : TypedState) (m' : Managed) : Type 0 where
  after : World
  step : happens plan (world_of m states) t ≡ (e, after)
  history : after.history ≡ m'.history
  threads : after.threads ≡ map thread_of (set states t x)
  layout : m'.layout ≡ m.layout
  ranks : m'.ranks ≡ m.ranks
  same : session_in m'.slots t ≡ session_of_state x
  others : (u : ℕ) → t ≢ u → session_in m'.slots u ≡ session_in m.slots u
  at : IsAt plan t x

pub record Done (plan : Plan) (m : Managed) (states : List TypedState) (t : ℕ) (e : Event) (x : TypedState) (m' : Managed) : Type 0 where
  pub step : happens plan (world_of m states) t ≡ (e, world_of m' (set states t x))
  pub tied : IsTied plan m' (set states t x)

session_at_set : (states : List TypedState) (t : ℕ) (x : TypedState) → t < length states →
    session_at (set states t x) t ≡ session_of_state x
session_at_set states t x lt = ap (λ o. lookup o session_of_state) (set_same states t x lt)

session_at_other : (states : List TypedState) (t u : ℕ) (x : TypedState) → t ≢ u →
    session_at (set states t x) u ≡ session_at states u
session_at_other states t u x ne = ap (λ o. lookup o session_of_state) (set_other states t u x ne)

done_with : (plan : Plan) (m : Managed) (states : List TypedState) (t : ℕ) (y : TypedState) (e : Event) (x : TypedState) (m' : Managed) →
    CommittedKeepsSize → StepsKeepSound → WorldsStayReady → IsTied plan m states → IsKept m' → slice_get states t ≡ Some y →
    Turn plan m states t e x m' → Done plan m states t e x m'
done_with plan m states t y e x m' size sound ready tied kept here k =
    let lt : t < length states = slice_get_within states t y here in
    let sessions : (u : ℕ) → session_in m'.slots u ≡ session_at (set states t x) u = λ u. elim (cases_eq t u) [
      | inl q ↦ ap (session_in m'.slots) (sym q) ∙ k.same ∙ sym (session_at_set states t x lt) ∙ ap (session_at (set states t x)) q
      | inr ne ↦ k.others u ne ∙ tied.sessions u ∙ sym (session_at_other states t u x ne)
    ] in
    let sound_after : IsSound plan k.after = subst (λ (r : Event × World). IsSound plan r.1) k.step (sound plan (world_of m states) t tied.compiled tied.sound) in
    let ready_after : IsReadyWorld plan k.after =
    subst (λ (r : Event × World). IsReadyWorld plan r.1) k.step (ready.step plan (world_of m states) t tied.compiled tied.sound tied.ready) in
    let layout : m'.layout ≡ plan.layout = k.layout ∙ tied.layout in
    let cells : k.after.cells ≡ cells_seen m' = same_cells plan k.after m' (set states t x) (record {
      sound = sound_after;
      kept = kept;
      history = k.history;
      threads = k.threads;
      layout = layout;
      sessions = sessions;
      listed = λ cell lock q. subst (λ l. Contains l.locks lock) (sym layout)
          (tied.compiled.laid_out.cells_listed cell lock (ap (λ l. slice_get l.cell_locks cell) (sym layout) ∙ q));
    }) size in
    let world : k.after ≡ world_of m' (set states t x) = λ i. record { cells = cells i; history = k.history i; threads = k.threads i } in
    record {
      step = k.step ∙ ap (λ (w : World). (e, w)) world;
      tied = record {
        compiled = tied.compiled;
        layout = layout;
        ranks = k.ranks ∙ tied.ranks;
        many = length-set states t x ∙ tied.many;
        sessions = sessions;
        at = λ u z h. elim (cases_eq t u) [
          | inl q ↦ (
              let is : x ≡ z = some_same x z (sym (set_same states t x lt) ∙ ap (slice_get (set states t x)) q ∙ h) in
              subst (λ (v : ℕ). IsAt plan v z) q (subst (IsAt plan t) is k.at))
          | inr ne ↦ tied.at u z (sym (set_other states t u x ne) ∙ h)
        ];
        sound = subst (IsSound plan) world sound_after;
        ready = subst (IsReadyWorld plan) world ready_after;
      };
    }

-- ---- small facts

pub at_thread : (plan : Plan) (m : Managed) (states : List TypedState) (t : ℕ) (y : TypedState) → slice_get states t ≡ Some y →
    happens plan (world_of m states) t ≡ steps_with plan (world_of m states) t (thread_of y) (thread_of y).active
at_thread plan m states t y h = ap (thread_steps plan (world_of m states) t) (map_at thread_of states t y h)

thread_is_open : (n : Next) → thread_of (state_of n) ≡ open_thread (open_of n)
thread_is_open (next.Running o) = refl
thread_is_open (next.Asking o) = refl
thread_is_open (next.Ended o) = refl

session_is_open : (n : Next) → session_of_state (state_of n) ≡ Some (session_of_open (open_of n))
session_is_open (next.Running o) = refl
session_is_open (next.Asking o) = refl
session_is_open (next.Ended o) = refl

named_at : (plan : Plan) (t : ℕ) (n : Next) → IsNamed n → IsOf plan t (open_of n) → IsAt plan t (state_of n)
named_at plan t (next.Running o) named of = (of, named.0, named.1)
named_at plan t (next.Asking o) named of = (of, named.0, named.1)
named_at plan t (next.Ended o) named of = (of, named.0, named.1)

-- an instruction does not change the session
record KeepsSession (a b : Activation) : Type 0 where
  call : b.call ≡ a.call
  begun : b.begun ≡ a.begun
  held : b.held ≡ a.held
  ask : first_if b.asked b.pending ≡ first_if a.asked a.pending

instructed_keeps : (plan : Plan) (a : Activation) (e : Effect HeldCells) → a.pending ≡ [] →
    KeepsSession a (instructed plan a e)
instructed_keeps plan a (Moves m) none = record { call = refl; begun = refl; held = refl; ask = refl }
instructed_keeps plan a (Asks point) none = record { call = refl; begun = refl; held = refl; ask = sym (ap (first_if a.asked) none ∙ no_ask a.asked) }
instructed_keeps plan a (Finishes outcome) none = record { call = refl; begun = refl; held = refl; ask = refl }
instructed_keeps plan a Undefined none = record { call = refl; begun = refl; held = refl; ask = refl }

session_kept : (o : OpenOf) (b : Activation) → KeepsSession o.activation b →
    session_of_open (further o b) ≡ session_of_open o
session_kept o b k = λ i. record { begun = k.begun i; held = k.held i; ask = k.ask i; room = o.room }

same_asking : (f g : Lock → Option ℕ) → ((lock : Lock) → f lock ≡ g lock) → (o : Option Lock) → asking f o ≡ asking g o
same_asking f g same None = refl
same_asking f g same (Some lock) = ap (wanting lock) (same lock)

-- ---- over a tied world, and the state of one of its threads

module _ (plan : Plan) (m : Managed) (states : List TypedState) (t : ℕ) (tied : IsTied plan m states) (kept : IsKept m) where
  few_threads : t < length states → t < 64
  few_threads lt = omega (arith, lt, tied.many, tied.compiled.well_formed.within.threads)

  slot_there : t < length states → t < length m.slots
  slot_there lt = let few = few_threads lt in let count : length m.slots ≡ 64 = kept.thread_count in omega (arith, few, count)

  session_here : (y : TypedState) → slice_get states t ≡ Some y → session_in m.slots t ≡ session_of_state y
  session_here y h = tied.sessions t ∙ ap (λ r. lookup r session_of_state) h

  slot_same : (s : Option SessionOf) (u : ℕ) → t < length states → u ≡ t → session_in (set m.slots u s) t ≡ s
  slot_same s u lt e =
      ap (λ v. session_in (set m.slots v s) t) e ∙ ap (λ r. lookup r (λ x. x)) (set_same m.slots t s (slot_there lt))

  slot_other : (s : Option SessionOf) (u v : ℕ) → u ≡ t → t ≢ v → session_in (set m.slots u s) v ≡ session_in m.slots v
  slot_other s u v e ne = ap (λ r. lookup r (λ x. x)) (set_other m.slots u v s (λ q. ne (sym e ∙ q)))

  threads_set : (x : TypedState) (thread : ThreadState) → thread ≡ thread_of x →
      set (map thread_of states) t thread ≡ map thread_of (set states t x)
  threads_set x thread e = ap (set (map thread_of states) t) e ∙ sym (map-set thread_of states t x)

  open_in : (y : TypedState) (o : OpenOf) → slice_get states t ≡ Some y → thread_of y ≡ open_thread o →
      HasOpen (world_of m states) t o.activation
  open_in y o h e = (thread_of y, map_at thread_of states t y h, ap (λ (q : ThreadState). q.active) e)

  holder_there : (lock : Lock) → holder (world_of m states) lock ≡ holder_of m lock
  holder_there lock = holder_is m (world_of m states) states kept refl tied.sessions tied.sound.apart lock

  stays : (y : TypedState) → slice_get states t ≡ Some y →
      happens plan (world_of m states) t ≡ (event.Idle, world_of m states) → Turn plan m states t event.Idle y m
  stays y h step = record {
    after = world_of m states;
    step = step;
    history = refl;
    threads = ap (map thread_of) (sym (set_itself states t y h));
    layout = refl;
    ranks = refl;
    same = session_here y h;
    others = λ u ne. refl;
    at = tied.at t y h;
  }

  -- ---- no section open

  idles : (r : ReadyOf) → slice_get states t ≡ Some (state.Ready r) → call_at plan r.thread r.step ≡ None →
      Turn plan m states t event.Idle (state.Ready r) m
  idles r h none =
      let here : r.thread ≡ t = tied.at t (state.Ready r) h in
      stays (state.Ready r) h
      (at_thread plan m states t (state.Ready r) h
      ∙ ap (begins plan (world_of m states) t (thread_of (state.Ready r))) (ap (λ u. call_at plan u r.step) (sym here) ∙ none))

  begun : (r : ReadyOf) (x : TypedState) (m' : Managed) → slice_get states t ≡ Some (state.Ready r) → Begun plan m r x m' →
      Turn plan m states t event.Began x m'
  begun r x m' h b =
      let here : r.thread ≡ t = tied.at t (state.Ready r) h in
      let lt : t < length states = slice_get_within states t (state.Ready r) h in
      let o = b.section in
      let a = activation plan (length m.history) b.call in
      let base : OpenOf = record { plan = plan; thread = r.thread; step = r.step; room = o.room; activation = a } in
      let is : o ≡ base = b.began.is in
      let s = fresh (length m.history) o.room in
      let manager : m' ≡ with_session m r.thread (Some s) = b.began.begins.manager in
      let call : call_at plan t r.step ≡ Some b.call = ap (λ u. call_at plan u r.step) (sym here) ∙ b.call_is in
      let at : IsAt plan t (state.Running o) = subst (λ (q : OpenOf). IsAt plan t (state.Running q)) (sym is)
      (record { plan_is = refl; thread = here; call = call; once = distinct_none }, refl, refl) in
      subst (λ (z : TypedState). Turn plan m states t event.Began z m') (sym b.state_is) (record {
        after = with_active (world_of m states) t (thread_of (state.Ready r)) a;
        step = at_thread plan m states t (state.Ready r) h ∙ ap (begins plan (world_of m states) t (thread_of (state.Ready r))) call;
        history = sym (ap (λ (q : Managed). q.history) manager);
        threads = threads_set (state.Running o) (open_thread base) (ap open_thread (sym is));
        layout = ap (λ (q : Managed). q.layout) manager;
        ranks = ap (λ (q : Managed). q.ranks) manager;
        same = ap (λ (q : Managed). session_in q.slots t) manager ∙ slot_same (Some s) r.thread lt here ∙ ap (λ (q : OpenOf). Some (session_of_open q)) (sym is);
        others = λ u ne. ap (λ (q : Managed). session_in q.slots u) manager ∙ slot_other (Some s) r.thread u here ne;
        at = at;
      })

  -- ---- an instruction

  moves : (o : OpenOf) (x : TypedState) (m' : Managed) → slice_get states t ≡ Some (state.Running o) → Moved m o x m' →
      Turn plan m states t event.Moved x m'
  moves o x m' h k =
      let here = tied.at t (state.Running o) h in
      let w = world_of m states in
      let a = o.activation in
      let b = instructed plan a (next_effect plan a) in
      let is : open_of k.next ≡ further o b = k.is ∙ ap (λ (p : Plan). further o (instructed p a (next_effect p a))) here.0.plan_is in
      let keeps = instructed_keeps plan a (next_effect plan a) here.1 in
      let base : IsOf plan t (further o b) = record {
        plan_is = here.0.plan_is;
        thread = here.0.thread;
        call = here.0.call ∙ ap Some (sym keeps.call);
        once = subst AreDistinct (sym keeps.held) here.0.once;
      } in
      subst (λ (z : TypedState). Turn plan m states t event.Moved z m') (sym k.state_is) (record {
        after = with_active w t (open_thread o) b;
        step = at_thread plan m states t (state.Running o) h
            ∙ ap (λ z. goes_on plan w t (open_thread o) a z a.outcome) here.1
            ∙ ap (goes_on plan w t (open_thread o) a []) here.2;
        history = sym (ap (λ (q : Managed). q.history) k.manager);
        threads = threads_set (state_of k.next) (open_thread (further o b)) (ap open_thread (sym is) ∙ sym (thread_is_open k.next));
        layout = ap (λ (q : Managed). q.layout) k.manager;
        ranks = ap (λ (q : Managed). q.ranks) k.manager;
        same = ap (λ (q : Managed). session_in q.slots t) k.manager ∙ session_here (state.Running o) h
            ∙ sym (session_is_open k.next ∙ ap (λ (q : OpenOf). Some (session_of_open q)) is ∙ ap Some (session_kept o b keeps));
        others = λ u ne. ap (λ (q : Managed). session_in q.slots u) k.manager;
        at = named_at plan t k.next k.named (subst (IsOf plan t) (sym is) base);
      })

  -- ---- a request

  -- the lock that is granted is not held yet
  new_lock : (o : OpenOf) (lock : Lock) (rest : List Lock) → WorldsStayReady → PrecedesIsStrict →
      slice_get states t ≡ Some (state.Asking o) →
      o.activation.pending ≡ lock ∷ rest → Contains o.activation.held lock → ⊥
  new_lock o lock rest ready strict h pending c =
      strict.not_itself plan.ranks lock
      (ready.rises plan (world_of m states) tied.ready t o.activation lock lock rest (open_in (state.Asking o) o h refl) pending c)

  got : (o : OpenOf) (lock : Lock) (x : TypedState) (m' : Managed) → CommittedKeepsSize → WorldsStayReady →
      PrecedesIsStrict → slice_get states t ≡ Some (state.Asking o) →
      Got m o lock x m' → Turn plan m states t (event.Got lock) x m'
  got o lock x m' size ready strict h k =
      let here = tied.at t (state.Asking o) h in
      let lt : t < length states = slice_get_within states t (state.Asking o) h in
      let w = world_of m states in
      let a = o.activation in
      let g = k.gets in
      let cells = cells_of plan.layout.cell_locks g.lock in
      let b = granted a g.lock g.rest (taken w.cells cells) in
      let locks : m.layout.cell_locks ≡ plan.layout.cell_locks = ap (λ l. l.cell_locks) tied.layout in
      let values : numbered (cells_of o.plan.layout.cell_locks g.lock) g.values ≡ taken w.cells cells =
      ap (λ (p : Plan). numbered (cells_of p.layout.cell_locks g.lock) g.values) here.0.plan_is
      ∙ ap (λ ls. numbered (cells_of ls g.lock) g.values) (sym locks)
      ∙ sym (taken_from m g.lock g.values kept size g.was_free)
      ∙ ap (λ ls. taken w.cells (cells_of ls g.lock)) locks in
      let is : open_of k.next ≡ further o b = g.is ∙ ap (λ vs. further o (granted a g.lock g.rest vs)) values in
      let nobody : holder w g.lock ≡ None = holder_there g.lock ∙ ap taker g.was_free in
      let s = with_lock (session_of_open o) g.lock in
      let base : IsOf plan t (further o b) = record {
        plan_is = here.0.plan_is;
        thread = here.0.thread;
        call = here.0.call;
        once = distinct_push a.held g.lock here.0.once (new_lock o g.lock g.rest ready strict h g.pending);
      } in
      subst (λ (z : TypedState). Turn plan m states t (event.Got lock) z m') (sym k.state_is) (record {
        after = (asks plan w t (open_thread o) a g.lock g.rest None).1;
        step = at_thread plan m states t (state.Asking o) h
            ∙ ap (λ z. goes_on plan w t (open_thread o) a z a.outcome) g.pending
            ∙ ap (asks plan w t (open_thread o) a g.lock g.rest) nobody
            ∙ ap (λ (l : Lock). (event.Got l, (asks plan w t (open_thread o) a g.lock g.rest None).1)) k.lock_is;
        history = sym (ap (λ (q : Managed). q.history) g.manager);
        threads = threads_set (state_of k.next) (open_thread (further o b)) (ap open_thread (sym is) ∙ sym (thread_is_open k.next));
        layout = ap (λ (q : Managed). q.layout) g.manager;
        ranks = ap (λ (q : Managed). q.ranks) g.manager;
        same = ap (λ (q : Managed). session_in q.slots t) g.manager ∙ slot_same (Some s) o.thread lt here.0.thread
            ∙ sym (session_is_open k.next ∙ ap (λ (q : OpenOf). Some (session_of_open q)) is);
        others = λ u ne. ap (λ (q : Managed). session_in q.slots u) g.manager ∙ slot_other (Some s) o.thread u here.0.thread ne;
        at = named_at plan t k.next k.named (subst (IsOf plan t) (sym is) base);
      })

  refused : (o : OpenOf) (lock : Lock) (h : ℕ) (x : TypedState) (m' : Managed) → slice_get states t ≡ Some (state.Asking o) →
      Refused m o lock h x m' → Turn plan m states t (event.Waits lock h) x m'
  refused o lock holding x m' h k =
      let here = tied.at t (state.Asking o) h in
      let lt : t < length states = slice_get_within states t (state.Asking o) h in
      let w = world_of m states in
      let a = o.activation in
      let b : Activation = record a { asked = true } in
      let g = k.waits in
      let is : k.section ≡ further o b = g.is in
      let held : holder w g.lock ≡ Some holding = holder_there g.lock ∙ ap taker g.was_taken in
      let s = with_ask (session_of_open o) g.lock in
      let session : s ≡ session_of_open (further o b) =
      (let ask : Some g.lock ≡ first_if true a.pending = sym (ap (first_if true) g.pending) in λ i. record { begun = a.begun; held = a.held; ask = ask i; room = o.room }) in
      let base : IsAt plan t (state.Asking (further o b)) =
      (record { plan_is = here.0.plan_is; thread = here.0.thread; call = here.0.call; once = here.0.once }, here.1, here.2) in
      subst (λ (z : TypedState). Turn plan m states t (event.Waits lock holding) z m') (sym k.state_is) (record {
        after = with_active w t (open_thread o) b;
        step = at_thread plan m states t (state.Asking o) h
            ∙ ap (λ z. goes_on plan w t (open_thread o) a z a.outcome) g.pending
            ∙ ap (asks plan w t (open_thread o) a g.lock g.rest) held
            ∙ ap (λ (l : Lock). (event.Waits l holding, with_active w t (open_thread o) b)) k.lock_is;
        history = sym (ap (λ (q : Managed). q.history) g.manager);
        threads = threads_set (state.Asking k.section) (open_thread (further o b)) (ap open_thread (sym is));
        layout = ap (λ (q : Managed). q.layout) g.manager;
        ranks = ap (λ (q : Managed). q.ranks) g.manager;
        same = ap (λ (q : Managed). session_in q.slots t) g.manager ∙ slot_same (Some s) o.thread lt here.0.thread
            ∙ ap Some session ∙ ap (λ (q : OpenOf). Some (session_of_open q)) (sym is);
        others = λ u ne. ap (λ (q : Managed). session_in q.slots u) g.manager ∙ slot_other (Some s) o.thread u here.0.thread ne;
        at = subst (λ (q : OpenOf). IsAt plan t (state.Asking q)) (sym is) base;
      })

  -- ---- the end

  over : (o : OpenOf) (position : ℕ) (x : TypedState) (m' : Managed) → slice_get states t ≡ Some (state.Ended o) →
      Over m o position x m' → Turn plan m states t (event.Ended position) x m'
  over o position x m' h k =
      let here = tied.at t (state.Ended o) h in
      let lt : t < length states = slice_get_within states t (state.Ended o) h in
      let w = world_of m states in
      let a = o.activation in
      let g = k.released in
      let base : ReadyOf = record { thread = o.thread; step = o.step + 1 } in
      let is : k.ready ≡ base = g.ready_is in
      let manager = g.releases.manager in
      let entry : commit o.thread o.step a g.outcome ≡ commit t o.step a g.outcome = ap (λ u. commit u o.step a g.outcome) here.0.thread in
      let at : length m.history ≡ position = sym g.releases.position ∙ k.position_is in
      subst (λ (z : TypedState). Turn plan m states t (event.Ended position) z m') (sym k.state_is) (record {
        after = (ends w t (open_thread o) a g.outcome).1;
        step = at_thread plan m states t (state.Ended o) h
            ∙ ap (λ z. goes_on plan w t (open_thread o) a z a.outcome) here.1
            ∙ ap (goes_on plan w t (open_thread o) a []) g.over
            ∙ ap (λ n. (event.Ended n, (ends w t (open_thread o) a g.outcome).1)) at;
        history = ap (λ (c : Commit). m.history ++ c ∷ []) (sym entry) ∙ sym (ap (λ (q : Managed). q.history) manager);
        threads = threads_set (state.Ready k.ready) (thread_of (state.Ready base)) (ap (λ (r : ReadyOf). thread_of (state.Ready r)) (sym is));
        layout = ap (λ (q : Managed). q.layout) manager;
        ranks = ap (λ (q : Managed). q.ranks) manager;
        same = ap (λ (q : Managed). session_in q.slots t) manager ∙ slot_same None o.thread lt here.0.thread;
        others = λ u ne. ap (λ (q : Managed). session_in q.slots u) manager ∙ slot_other None o.thread u here.0.thread ne;
        at = ap (λ (r : ReadyOf). r.thread) is ∙ here.0.thread;
      })

  -- ---- any step

  ready_turn : (r : ReadyOf) (e : Event) (x : TypedState) (m' : Managed) → slice_get states t ≡ Some (state.Ready r) →
      ReadySteps plan m r e x m' → Turn plan m states t e x m'
  ready_turn r event.Idle x m' h (none, (is, same)) =
      subst (λ (z : TypedState). Turn plan m states t event.Idle z m') (sym is) (subst (Turn plan m states t event.Idle (state.Ready r)) (sym same) (idles r h none))
  ready_turn r event.Began x m' h s = begun r x m' h s
  ready_turn r _ x m' h s = absurd s

  running_turn : (o : OpenOf) (e : Event) (x : TypedState) (m' : Managed) → slice_get states t ≡ Some (state.Running o) →
      RunningSteps m o e x m' → Turn plan m states t e x m'
  running_turn o event.Moved x m' h s = moves o x m' h s
  running_turn o _ x m' h s = absurd s

  asking_turn : (o : OpenOf) (e : Event) (x : TypedState) (m' : Managed) → CommittedKeepsSize → WorldsStayReady →
      PrecedesIsStrict → slice_get states t ≡ Some (state.Asking o) →
      AskingSteps m o e x m' → Turn plan m states t e x m'
  asking_turn o (event.Got lock) x m' size ready strict h s = got o lock x m' size ready strict h s
  asking_turn o (event.Waits lock holding) x m' size ready strict h s = refused o lock holding x m' h s
  asking_turn o _ x m' size ready strict h s = absurd s

  ended_turn : (o : OpenOf) (e : Event) (x : TypedState) (m' : Managed) → slice_get states t ≡ Some (state.Ended o) →
      EndedSteps m o e x m' → Turn plan m states t e x m'
  ended_turn o (event.Ended position) x m' h s = over o position x m' h s
  ended_turn o _ x m' h s = absurd s

  turn : (y : TypedState) (e : Event) (x : TypedState) (m' : Managed) → CommittedKeepsSize → WorldsStayReady →
      PrecedesIsStrict → slice_get states t ≡ Some y →
      Steps plan m y e x m' → Turn plan m states t e x m'
  turn state.Away e x m' size ready strict h s = absurd s
  turn (state.Ready r) e x m' size ready strict h s = ready_turn r e x m' h s
  turn (state.Running o) e x m' size ready strict h s = running_turn o e x m' h s
  turn (state.Asking o) e x m' size ready strict h s = asking_turn o e x m' size ready strict h s
  turn (state.Ended o) e x m' size ready strict h s = ended_turn o e x m' h s

  pub done : (y : TypedState) (e : Event) (x : TypedState) (m' : Managed) → CommittedKeepsSize → StepsKeepSound →
      WorldsStayReady → PrecedesIsStrict → IsKept m' →
      slice_get states t ≡ Some y → Steps plan m y e x m' → Done plan m states t e x m'
  done y e x m' size sound ready strict kept' h s = done_with plan m states t y e x m' size sound ready tied kept' h (turn y e x m' size ready strict h s)

  -- ---- requirements of a step

  knows : (y : TypedState) (o : OpenOf) → slice_get states t ≡ Some y → session_of_state y ≡ Some (session_of_open o) →
      o.thread ≡ t →
      session_of m o.thread ≡ Some (session_of_open o)
  knows y o h session here = ap (session_in m.slots) here ∙ session_here y h ∙ session

  step_fits : (o : OpenOf) → IsOf plan t o → o.step + 1 < 2 ^ 64
  step_fits o of = let few = step_within plan t o.step o.activation.call tied.compiled of.call in omega (arith, few)

  pub can_step : (y : TypedState) → OffsetsFindValues → slice_get states t ≡ Some y → CanStep m y
  can_step state.Away find h = tied.at t state.Away h
  can_step (state.Ready r) find h =
      let here : r.thread ≡ t = tied.at t (state.Ready r) h in
      let few = few_threads (slice_get_within states t (state.Ready r) h) in
      record { thread = omega (arith, here, few); closed = ap (session_in m.slots) here ∙ session_here (state.Ready r) h }
  can_step (state.Running o) find h = tt
  can_step (state.Asking o) find h =
      let here = tied.at t (state.Asking o) h in
      let values : m.values ≡ committed plan.layout.opening m.history = kept.values ∙ ap (λ l. committed l.opening m.history) tied.layout in
      record {
        layout = tied.layout ∙ ap (λ (p : Plan). p.layout) (sym here.0.plan_is);
        ranks = tied.ranks ∙ ap (λ (p : Plan). p.ranks) (sym here.0.plan_is);
        known = knows (state.Asking o) o h refl here.0.thread;
        heap = subst (λ (p : Plan). IsHeap p.program m.values) (sym here.0.plan_is) (subst (IsHeap plan.program) (sym values) tied.ready.heap);
      }
  can_step (state.Ended o) find h =
      let here = tied.at t (state.Ended o) h in
      let is_open = open_in (state.Ended o) o h refl in
      record {
        back = can_end plan m (cells_seen m) o find kept tied.layout here.0.plan_is (knows (state.Ended o) o h refl here.0.thread)
            (tied.sound.well t o.activation is_open) (tied.sound.fit t o.activation is_open) here.0.once here.1;
        step = step_fits o here.0;
      }

  -- ---- statuses

  status_by_state : (y : TypedState) → slice_get states t ≡ Some y →
      status_at plan m y ≡ section_status plan (world_of m states) t (thread_of y).step (thread_of y).active
  status_by_state state.Away h = absurd (tied.at t state.Away h)
  status_by_state (state.Ready r) h = ap (λ u. calling (call_at plan u r.step)) (tied.at t (state.Ready r) h)
  status_by_state (state.Running o) h =
      sym (ap (asking (holder (world_of m states))) (ap (first_if o.activation.asked) (tied.at t (state.Running o) h).1 ∙ no_ask o.activation.asked))
  status_by_state (state.Asking o) h =
      same_asking (holder_of m) (holder (world_of m states)) (λ lock. sym (holder_there lock)) (first_if o.activation.asked o.activation.pending)
  status_by_state (state.Ended o) h =
      sym (ap (asking (holder (world_of m states))) (ap (first_if o.activation.asked) (tied.at t (state.Ended o) h).1 ∙ no_ask o.activation.asked))

  pub status_is : (y : TypedState) → slice_get states t ≡ Some y → status_at plan m y ≡ status_of plan (world_of m states) t
  status_is y h = status_by_state y h ∙ sym (ap (thread_status plan (world_of m states) t) (map_at thread_of states t y h))

-- ---- if memory ran out, nothing changes

only_stays : (plan : Plan) (m : Managed) (y x : TypedState) (m' : Managed) → Refuses plan m y x m' → Stays m y x m'
only_stays plan m state.Away x m' s = absurd s
only_stays plan m (state.Ready r) x m' s = s.1
only_stays plan m (state.Running o) x m' s = absurd s
only_stays plan m (state.Asking o) x m' s = absurd s
only_stays plan m (state.Ended o) x m' s = absurd s

-- ---- a step, or a failed allocation

module _ (plan : Plan) (m : Managed) (states last : List TypedState) (t : ℕ) (y x : TypedState) (m' : Managed) (now : ThreadsOf)
    (tied : IsTied plan m states) (kept : IsKept m) (kept' : IsKept m') (size : CommittedKeepsSize) (sound : StepsKeepSound) (ready : WorldsStayReady)
    (strict : PrecedesIsStrict) (here : slice_get states t ≡ Some y) (is : last ≡ set states t x) (view : threads_of plan (world_of m states) ≡ now) where
  stayed : (e : NoMemory) → Stepped plan m y (Err e) x m' →
      threads_of plan (world_of m' last) ≡ threads_of plan (world_of m states)
  stayed e s =
      let same = only_stays plan m y x m' s in
      let states_are : last ≡ states = is ∙ ap (set states t) same.0 ∙ set_itself states t y here in
      λ i. threads_of plan (world_of (same.1 i) (states_are i))

  pub stepped_tied : (r : Result Event NoMemory) → Stepped plan m y r x m' → IsTied plan m' last
  stepped_tied (Ok e) s = subst (IsTied plan m') (sym is) (done plan m states t tied kept y e x m' size sound ready strict kept' here s).tied
  stepped_tied (Err e) s =
      let same = only_stays plan m y x m' s in
      let states_are : states ≡ last = sym (is ∙ ap (set states t) same.0 ∙ set_itself states t y here) in
      subst (IsTied plan m') states_are (subst (λ (q : Managed). IsTied plan q states) (sym same.1) tied)

  pub stepped_ok : (r : Result Event NoMemory) → Stepped plan m y r x m' →
      IfOk r (λ e. happens now.plan now.world t ≡ (e, world_of m' last))
  stepped_ok (Ok e) s =
      sym (ap (λ (w : ThreadsOf). happens w.plan w.world t) view)
      ∙ (done plan m states t tied kept y e x m' size sound ready strict kept' here s).step
      ∙ ap (λ (ss : List TypedState). (e, world_of m' ss)) (sym is)
  stepped_ok (Err e) s = tt

  pub stepped_err : (r : Result Event NoMemory) → Stepped plan m y r x m' →
      OnErr r (threads_of plan (world_of m' last) ≡ now)
  stepped_err (Ok e) s = tt
  stepped_err (Err e) s = stayed e s ∙ view

  begins_now : (z : TypedState) → slice_get states t ≡ Some z → Refuses plan m z x m' →
      (happens plan (world_of m states) t).0 ≡ event.Began
  begins_now state.Away h s = absurd s
  begins_now (state.Ready r) h s =
      let call : call_at plan t r.step ≡ Some s.0.0 = ap (λ u. call_at plan u r.step) (sym (tied.at t (state.Ready r) h)) ∙ s.0.1 in
      ap (λ (p : Event × World). p.0) (at_thread plan m states t (state.Ready r) h
      ∙ ap (begins plan (world_of m states) t (thread_of (state.Ready r))) call)
  begins_now (state.Running o) h s = absurd s
  begins_now (state.Asking o) h s = absurd s
  begins_now (state.Ended o) h s = absurd s

  pub stepped_begins : (r : Result Event NoMemory) → Stepped plan m y r x m' →
      OnErr r ((happens now.plan now.world t).0 ≡ event.Began)
  stepped_begins (Ok e) s = tt
  stepped_begins (Err e) s = sym (ap (λ (w : ThreadsOf). (happens w.plan w.world t).0) view) ∙ begins_now y here s
