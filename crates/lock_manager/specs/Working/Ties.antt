-- Invariants between the manager's parts. Nobody has to believe these.
use Rattle.std.specs.Prelude.{◌≡◌, ◌<◌, ◌≤◌, ℕ, ◌+◌, List, [], ◌∷◌, length, map, slice_set, slice_index_or, Option}
use Rattle.std.specs.Prelude.{Some, None, Bool, true, false}
use Rattle.std.specs.List.{All}
use Rattle.core_lang.specs.declared.value.Value.{Value}
use Rattle.locks.specs.declared.lock.Lock.{Lock}
use Rattle.locks.specs.Locks.{among}
use Rattle.code.specs.Memory.{overwritten, Agrees}
use Rattle.moved_cells.specs.Working.Grants.{GrantOf, cells_in, locks_of}
use Rattle.history.specs.Working.Histories.{PromisedOf}
use Rattle.lock_manager.specs.declared.places.LockPlace.{LockPlace}
use Rattle.lock_manager.specs.declared.queue.Waiter.{Waiter}
use Rattle.lock_manager.specs.Working.Committed.{CommittedOf, restored}
use Rattle.lock_manager.specs.Manager.{SessionOf, Managed, session_in}
use Rattle.lock_manager.specs.Working.Managers.{given_back}

-- a thread's open section has room for one more lock
pub record HasRoom (slots : List (Option SessionOf)) (t : ℕ) : Type 0 where
  pub session : SessionOf
  pub is : session_in slots t ≡ Some session
  pub room : length session.held < session.room.locks

-- an open section has room for one more lock, and if it asked for a lock, it is this one
pub record MayTake (session : SessionOf) (lock : Lock) : Type 0 where
  pub same : (other : Lock) → session.ask ≡ Some other → other ≡ lock
  pub room : length session.held < session.room.locks

-- a thread's open section is changed in this way, if there is one
abbrev pub IsChanged : (SessionOf → SessionOf) → List (Option SessionOf) → ℕ → List (Option SessionOf) → Type 0
IsChanged change slots t slots' =
    (s : SessionOf) → session_in slots t ≡ Some s → slots' ≡ slice_set slots t (Some (change s))

-- the cells of these grants are back, as they were left
abbrev pub all_restored : CommittedOf → List LockPlace → List GrantOf → List LockPlace
all_restored c places grants = given_back c.layout.locks places (map (restored c) (locks_of grants))

-- the grants have the values of their cells, with these writes made
abbrev pub AreNow : CommittedOf → List (ℕ × Value) → List GrantOf → Type 0
AreNow c writes grants =
    All (λ (g : GrantOf). Agrees (overwritten c.values writes) (cells_in c.layout.cell_locks g)) grants

-- each write is of a greater cell than the one before
abbrev pub Rise : List (ℕ × Value) → Type 0
Rise writes =
    (i : ℕ) (d : ℕ × Value) → i + 1 < length writes →
    (slice_index_or writes i d).0 < (slice_index_or writes (i + 1) d).0

-- 1 for true
abbrev pub one_if : Bool → ℕ
one_if true = 1
one_if false = 0

-- the number of waiters that wait for one of these locks
abbrev pub awaiting : List Waiter → List Lock → ℕ
awaiting [] held = 0
awaiting (w ∷ ws) held = one_if (among held w.lock) + awaiting ws held

-- the list of threads to wake is empty, and has room for one thread for each lock that the section can hold
pub record HasWakingRoom (session : SessionOf) (woken capacity : ℕ) : Type 0 where
  pub none_yet : woken ≡ 0
  pub held : length session.held ≤ capacity
  pub locks : session.room.locks ≤ capacity

-- 1 where a section is open, and 1 where it asked for a lock
abbrev pub one_if_open : Option SessionOf → ℕ
one_if_open None = 0
one_if_open (Some s) = 1

abbrev pub one_if_some : {A : Type 0} → Option A → ℕ
one_if_some None = 0
one_if_some (Some a) = 1

abbrev pub one_if_asking : Option SessionOf → ℕ
one_if_asking None = 0
one_if_asking (Some s) = one_if_some s.ask

-- the sum over all slots
abbrev pub sum_over : (Option SessionOf → ℕ) → List (Option SessionOf) → ℕ
sum_over f [] = 0
sum_over f (s ∷ ss) = f s + sum_over f ss

-- the cells that an open section can touch
abbrev pub cells_if_open : Option SessionOf → ℕ
cells_if_open None = 0
cells_if_open (Some s) = s.room.cells

-- the history has room for an entry of each open section, and at most as many threads wait as have asked for a lock
pub record IsTied (m : Managed) (promises : PromisedOf) : Type 0 where
  pub promised : promises.entries ≡ sum_over one_if_open m.slots
  pub cells : promises.cells ≡ sum_over cells_if_open m.slots
  pub waiting : length m.waiters ≤ sum_over one_if_asking m.slots
