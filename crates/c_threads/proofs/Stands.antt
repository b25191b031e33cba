-- A world of threads in C and the world of sections that it stands for: the relation between both, and how it is kept
-- if a thread changes.
--
-- How the laws of threads are proved: each world keeps two invariants. The first is about the world in C alone
-- (`proofs/InOrder`): no lock is locked by two threads, each entry is of a call past its end, and no call has two
-- entries. The entry of a call has what the call returned, and a call that had not begun in an earlier world notes that
-- world's whole history. One lemma covers the change of a thread. The second relates the world in C to a world of
-- sections (here): the history is the same, a call is its thread's open section until its entry is made, and the memory
-- has in each cell what the world has or its section holds. The plan of the operand stack ties a call to its section
-- (`proofs/Beside`). A group over the memory does what it does over the cells that the section holds, and reaches no
-- other cell (`proofs/Shared`). A step is one step of the world or none (`proofs/Steps`): a wait, an unlock after the
-- first and the return are none. Some thread goes on: a thread that releases locks can. If no thread releases locks,
-- the locked locks are those that sections hold, and the section that goes on in the world does so in C
-- (`proofs/Waiting`).
use Rattle.std.proofs.Common.{◌≡◌, ◌≢◌, ◌<◌, ℕ, ◌+◌, true, false, List, [], length, map, Option, Some, None}
use Rattle.std.proofs.Common.{slice_get, set, refl, sym, ap, ◌∙◌, subst, arith, inl, inr, true≢false}
use Rattle.std.proofs.lemmas.List.{length-set}
use Rattle.std.proofs.lemmas.Option.{none-some, slice_get_within}
use Rattle.std.specs.Option.{option_map_or}
use Rattle.core_lang.specs.declared.value.Value.{Value}
use Rattle.core_lang.specs.Theory.Items.{get_some, set_itself, same_value}
use Rattle.locks.specs.declared.lock.Lock.{Lock}
use Rattle.locks.specs.Locks.{among}
use Rattle.code.specs.Memory.{value_at}
use Rattle.history.specs.Commits.{Commit}
use Rattle.lowering.specs.Plans.{Plan}
use Rattle.worlds.specs.Worlds.{World, ThreadState, Activation, holder, final}
use Rattle.worlds.specs.Working.States.{IsSound}
use Rattle.worlds.specs.Working.Ahead.{IsReadyWorld}
use Rattle.c_threads.specs.Threads.{Entry, Progress, Taking, Over, Leaving, CallInC, ThreadInC, WorldInC, is_locked}
use Rattle.c_threads.specs.Claims.{entry_of}
use Rattle.c_threads.proofs.Lists.{set_cases, nobody_locked}
use Rattle.c_threads.proofs.Beside.{GoesOn, IsOver}
use Rattle.c_threads.proofs.Giving.{GivesBack}
use Rattle.c_threads.proofs.Worlds.{no_holder}

-- a world that steps lead to
pub record Reached (plan : Plan) (w : World) : Type 0 where
  pub steps : List ℕ
  pub is : final plan steps ≡ w
  pub sound : IsSound plan w
  pub ready : IsReadyWorld plan w

module _ (plan : Plan) where
  abbrev pub CallStands : List Value → ThreadState → ThreadInC → CallInC → Progress → Type 0
  CallStands cells thread x c (Taking pending) =
      (thread.step ≡ length x.answers) × (a : Activation) × (thread.active ≡ Some a) × GoesOn plan cells x.locked c pending a
  CallStands cells thread x c (Over outcome) =
      (thread.step ≡ length x.answers) × (a : Activation) × (thread.active ≡ Some a) × IsOver plan cells x.locked c outcome a
  CallStands cells thread x c (Leaving outcome locks) =
      (thread.step ≡ length x.answers + 1) × (thread.active ≡ None) × GivesBack x.locked locks

  abbrev pub ThreadStands : List Value → ThreadState → ThreadInC → Option CallInC → Type 0
  ThreadStands cells thread x None = (thread.step ≡ length x.answers) × (thread.active ≡ None) × (x.locked ≡ [])
  ThreadStands cells thread x (Some c) = CallStands cells thread x c c.progress

  pub record Stands (w : World) (c : WorldInC) : Type 0 where
    pub history : map entry_of w.history ≡ c.history
    pub size : length c.cells ≡ length w.cells
    pub free : (cell : ℕ) (v : Value) → slice_get w.cells cell ≡ Some (Some v) → slice_get c.cells cell ≡ Some v
    pub count : length c.threads ≡ length w.threads
    pub threads : (t : ℕ) (thread : ThreadState) (x : ThreadInC) → slice_get w.threads t ≡ Some thread → slice_get c.threads t ≡ Some x →
        ThreadStands c.cells thread x x.active

  -- the thread of the world that a thread in C stands for
  pub thread_of : (w : World) (c : WorldInC) → Stands w c → (t : ℕ) (x : ThreadInC) → slice_get c.threads t ≡ Some x →
      (thread : ThreadState) × (slice_get w.threads t ≡ Some thread)
  thread_of w c s t x at =
      let less : t < length c.threads = slice_get_within c.threads t x at in
      let same = s.count in
      get_some w.threads t (omega (arith, less, same))

  -- the thread in C that stands for a thread of the world
  pub thread_in_c : (w : World) (c : WorldInC) → Stands w c → (t : ℕ) (thread : ThreadState) → slice_get w.threads t ≡ Some thread →
      (x : ThreadInC) × (slice_get c.threads t ≡ Some x)
  thread_in_c w c s t thread at =
      let less : t < length w.threads = slice_get_within w.threads t thread at in
      let same = s.count in
      get_some c.threads t (omega (arith, less, same))

  -- a thread stands over another memory that agrees with the first in the cells that its section holds
  pub seen_on : (cells now : List Value) (thread : ThreadState) (x : ThreadInC) (o : Option CallInC) →
      ((a : Activation) (cell : ℕ) (v : Value) → thread.active ≡ Some a → value_at a.machine.memory.cells cell ≡ Some v → slice_get now cell ≡ slice_get cells cell) →
      ThreadStands cells thread x o → ThreadStands now thread x o
  seen_on cells now thread x None same h = h
  seen_on cells now thread x (Some c) same h = by c.progress h
    where
      by : (p : Progress) → CallStands cells thread x c p → CallStands now thread x c p
      by (Taking pending) h = (
        h.0,
        h.1,
        h.2,
        record {
          stack = h.3.stack;
          memory = h.3.memory;
          is = h.3.is;
          low = h.3.low;
          hold = h.3.hold;
          sees = λ cell v e. same h.1 cell v h.2 (ap (λ (a : Activation). value_at a.machine.memory.cells cell) h.3.is ∙ e) ∙ h.3.sees cell v e;
          noted = h.3.noted;
        },
      )
      by (Over outcome) h = (
        h.0,
        h.1,
        h.2,
        record {
          call = h.3.call;
          begun = h.3.begun;
          held = h.3.held;
          pending = h.3.pending;
          outcome = h.3.outcome;
          prints = h.3.prints;
          sees = λ cell v e. same h.1 cell v h.2 e ∙ h.3.sees cell v e;
          noted = h.3.noted;
        },
      )
      by (Leaving outcome locks) h = h

  -- the open section of a thread holds the locks that the thread in C has locked
  pub held_is_locked : (cells : List Value) (thread : ThreadState) (x : ThreadInC) (o : Option CallInC) (a : Activation) →
      ThreadStands cells thread x o → thread.active ≡ Some a → a.held ≡ x.locked
  held_is_locked cells thread x None a h is = absurd (none-some a (sym h.1 ∙ is))
  held_is_locked cells thread x (Some c) a h is = by c.progress h
    where
      same : (b : Activation) → thread.active ≡ Some b → b.held ≡ x.locked → a.held ≡ x.locked
      same b e held = ap (λ (z : Activation). z.held) (same_value thread.active a b is e) ∙ held

      by : (p : Progress) → CallStands cells thread x c p → a.held ≡ x.locked
      by (Taking pending) h = same h.1 h.2 (ap (λ (z : Activation). z.held) h.3.is)
      by (Over outcome) h = same h.1 h.2 h.3.held
      by (Leaving outcome locks) h = absurd (none-some a (sym h.1 ∙ is))

  -- no section holds a lock that no thread in C has locked
  pub none_holds : (w : World) (c : WorldInC) → Stands w c → (lock : Lock) → is_locked c.threads lock ≡ false → holder w lock ≡ None
  none_holds w c s lock free = no_holder 0 w.threads lock (λ t thread at h. by t thread at thread.active refl h)
    where
      by : (t : ℕ) (thread : ThreadState) → slice_get w.threads t ≡ Some thread → (o : Option Activation) → thread.active ≡ o →
          option_map_or (λ (a : Activation). among a.held lock) o false ≡ true → ⊥
      by t thread at None is h = true≢false (sym h)
      by t thread at (Some a) is h =
          let mine = thread_in_c w c s t thread at in
          let same = held_is_locked c.cells thread mine.0 mine.0.active a (s.threads t thread mine.0 at mine.1) is in
          nobody_locked c.threads t mine.0 lock free mine.1 (ap (λ xs. among xs lock) (sym same) ∙ h)

  -- ---- if a thread changes

  pub record Changes (w : World) (c : WorldInC) (t : ℕ) (thread : ThreadState) (x : ThreadInC) (w_cells : List (Option Value)) (c_cells : List Value)
      (w_history : List Commit) (c_history : List Entry) : Type 0 where
    pub history : map entry_of w_history ≡ c_history
    pub size : length c_cells ≡ length w_cells
    pub free : (cell : ℕ) (v : Value) → slice_get w_cells cell ≡ Some (Some v) → slice_get c_cells cell ≡ Some v
    pub mine : ThreadStands c_cells thread x x.active
    pub others : (u : ℕ) (other : ThreadState) (y : ThreadInC) → t ≢ u → slice_get w.threads u ≡ Some other → slice_get c.threads u ≡ Some y →
        ThreadStands c.cells other y y.active → ThreadStands c_cells other y y.active

  pub changed_stands : (w : World) (c : WorldInC) (t : ℕ) (thread : ThreadState) (x : ThreadInC) (w_cells : List (Option Value)) (c_cells : List Value)
      (w_history : List Commit) (c_history : List Entry) → Stands w c →
      Changes w c t thread x w_cells c_cells w_history c_history →
      Stands (record { cells = w_cells; history = w_history; threads = set w.threads t thread }) (record { cells = c_cells; history = c_history; threads = set c.threads t x })
  changed_stands w c t thread x w_cells c_cells w_history c_history s now = record {
    history = now.history;
    size = now.size;
    free = now.free;
    count = length-set c.threads t x ∙ s.count ∙ sym (length-set w.threads t thread);
    threads = λ u other y at at'. elim (set_cases w.threads t thread u other at) [
      | inl e ↦ elim (set_cases c.threads t x u y at') [
        | inl f ↦ subst (λ (z : ThreadState). ThreadStands c_cells z y y.active) e.1
            (subst (λ (z : ThreadInC). ThreadStands c_cells thread z z.active) f.1 now.mine)
        | inr f ↦ absurd (f.0 e.0)
      ]
      | inr e ↦ elim (set_cases c.threads t x u y at') [
        | inl f ↦ absurd (e.0 f.0)
        | inr f ↦ now.others u other y e.0 e.1 f.1 (s.threads u other y e.1 f.1)
      ]
    ];
  }

  -- the world stays, and a thread in C changes in a way that the world does not see
  pub same_world : (w : World) (c : WorldInC) (t : ℕ) (thread : ThreadState) (x : ThreadInC) → Stands w c → slice_get w.threads t ≡ Some thread →
      ThreadStands c.cells thread x x.active → Stands w (record c { threads = set c.threads t x })
  same_world w c t thread x s at mine =
      subst (λ (threads : List ThreadState). Stands (record { cells = w.cells; history = w.history; threads = threads }) (record c { threads = set c.threads t x }))
      (set_itself w.threads t thread at)
      (changed_stands w c t thread x w.cells c.cells w.history c.history s
      (record { history = s.history; size = s.size; free = s.free; mine = mine; others = λ u other y ne a b h. h }))
