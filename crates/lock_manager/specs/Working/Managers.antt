-- The state and the invariants of the lock manager.
use Rattle.std.specs.Prelude.{◌≡◌, ℕ, ◌+◌, if◌then◌else◌, List, [], ◌∷◌, length, map, replicate, slice_get, slice_set}
use Rattle.std.specs.Prelude.{Option, Some, None}
use Rattle.std.specs.List.{Contains}
use Rattle.core_lang.specs.declared.value.Value.{Value}
use Rattle.core_lang.specs.declared.typed.Typed.{Typed}
use Rattle.core_lang.specs.Typing.{lookup}
use Rattle.locks.specs.declared.lock.Lock.{Lock}
use Rattle.locks.specs.Order.{Precedes}
use Rattle.locks.specs.Waiting.{Asker}
use Rattle.code.specs.Memory.{value_at}
use Rattle.layout.specs.LockCells.{cells_of}
use Rattle.locks.specs.Locks.{same_lock}
use Rattle.layout.specs.Layouts.{LayoutOf, AreDistinct, IsLayoutOf}
use Rattle.moved_cells.specs.Working.Grants.{GrantOf, cells_in, values_on}
use Rattle.history.specs.Commits.{Commit, committed, IsLegal}
use Rattle.lock_manager.specs.declared.places.LockPlace.{LockPlace}
use Rattle.lock_manager.specs.declared.places.LockPlace.TheVariants.{Free, Taken}
use Rattle.lock_manager.specs.declared.queue.Waiter.{Waiter}
use Rattle.lock_manager.specs.Manager.{SessionOf, Managed, session_in}
use Rattle.lock_manager.specs.Working.Queues.{waiting_in}
use Rattle.lock_manager.specs.Working.Committed.{CommittedOf}

abbrev pub managed :
    CommittedOf → List ℕ → List LockPlace → List Waiter → List (Option SessionOf) → List Commit → Managed
managed committed ranks places waiters slots history = record {
  layout = committed.layout;
  ranks = ranks;
  places = places;
  waiters = waiters;
  slots = slots;
  history = history;
  values = committed.values;
}

-- ---- reading

-- the number of a lock in the list, whose first lock has the given number
abbrev pub number_from : ℕ → List Lock → Lock → Option ℕ
number_from n [] lock = None
number_from n (l ∷ ls) lock = if same_lock l lock then Some n else number_from (n + 1) ls lock

-- the place of a lock's cells: with the manager, or with a thread
abbrev pub place_of : Managed → Lock → Option LockPlace
place_of m lock = lookup (number_from 0 m.layout.locks lock) (λ n. slice_get m.places n)

-- the thread that has a lock's cells
abbrev pub taker : Option LockPlace → Option ℕ
taker (Some (Taken t)) = Some t
taker (Some (Free values)) = None
taker None = None

abbrev pub holder_of : Managed → Lock → Option ℕ
holder_of m lock = taker (place_of m lock)

-- the threads that wait for a lock
abbrev pub waiting_for : Managed → Lock → List ℕ
waiting_for m lock = waiting_in m.waiters lock

-- the value of a cell of a lock, if the lock's cells are with the manager
abbrev pub value_in : List Lock → Lock → Option LockPlace → ℕ → Option Value
value_in cell_locks lock (Some (Free values)) cell =
    value_at (cells_in cell_locks (record { lock = lock; values = values })) cell
value_in cell_locks lock (Some (Taken t)) cell = None
value_in cell_locks lock None cell = None

-- the value of a cell, if the cells of its lock are with the manager
abbrev pub cell_of : Managed → ℕ → Option Value
cell_of m cell =
    lookup (slice_get m.layout.cell_locks cell) (λ lock. value_in m.layout.cell_locks lock (place_of m lock) cell)

-- ---- changing

-- the places with another one at a number; without a number the same places
abbrev pub put_number : Option ℕ → List LockPlace → LockPlace → List LockPlace
put_number None places place = places
put_number (Some n) places place = slice_set places n place

-- the places with another one for a lock
abbrev pub put_for : List Lock → List LockPlace → Lock → LockPlace → List LockPlace
put_for locks places lock place = put_number (number_from 0 locks lock) places place

-- the places with the cells of these grants back
abbrev pub given_back : List Lock → List LockPlace → List GrantOf → List LockPlace
given_back locks places [] = places
given_back locks places (g ∷ gs) = put_for locks (given_back locks places gs) g.lock (Free g.values)

-- the cells of a lock as the history leaves them
abbrev pub as_committed : Managed → Lock → GrantOf
as_committed m lock = record { lock = lock; values = values_on m.values (cells_of m.layout.cell_locks lock) }

-- ---- the whole

-- the number of threads that a manager serves
abbrev pub threads : ℕ
threads = 64

-- the layout is that of a program
abbrev pub IsLayout : LayoutOf → Type 0
IsLayout layout = (program : Typed) × IsLayoutOf program layout

-- the initial manager: it has all cells with their initial values. No section is open, no thread waits, and the history
-- is empty
abbrev pub opened : LayoutOf → List ℕ → Managed
opened layout ranks = record {
  layout = layout;
  ranks = ranks;
  places = map (λ (l : Lock). Free (values_on layout.opening (cells_of layout.cell_locks l))) layout.locks;
  waiters = [];
  slots = replicate threads None;
  history = [];
  values = layout.opening;
}

-- the lock comes after all of these in the lock order
abbrev pub ComesAfter : List ℕ → List Lock → Lock → Type 0
ComesAfter ranks held lock = (other : Lock) → Contains held other → Precedes ranks other lock

-- a thread's open section holds a lock
pub record Holds (slots : List (Option SessionOf)) (t : ℕ) (lock : Lock) : Type 0 where
  pub session : SessionOf
  pub is : session_in slots t ≡ Some session
  pub held : Contains session.held lock

-- a thread's open section asked for a lock
pub record Asks (slots : List (Option SessionOf)) (t : ℕ) (lock : Lock) : Type 0 where
  pub session : SessionOf
  pub is : session_in slots t ≡ Some session
  pub ask : session.ask ≡ Some lock

-- the invariant of the manager
pub record IsKept (m : Managed) : Type 0 where
  -- the history is legal, and the values are what it leaves
  pub legal : IsLegal m.layout.opening m.history
  pub values : m.values ≡ committed m.layout.opening m.history
  -- the cells that are with the manager have these values
  pub free : (lock : Lock) (values : List Value) → place_of m lock ≡ Some (Free values) →
      values ≡ values_on m.values (cells_of m.layout.cell_locks lock)
  -- other cells are with the thread whose open section holds their lock
  pub taken : (lock : Lock) (t : ℕ) → place_of m lock ≡ Some (Taken t) → Holds m.slots t lock
  pub held : (lock : Lock) (t : ℕ) → Holds m.slots t lock → place_of m lock ≡ Some (Taken t)
  -- no section holds a lock twice
  pub once : (t : ℕ) (session : SessionOf) → session_in m.slots t ≡ Some session → AreDistinct session.held
  -- each lock that a thread has asked for comes after all locks that the thread holds
  pub rising : (t : ℕ) (lock : Lock) (asks : Asks m.slots t lock) → ComesAfter m.ranks asks.session.held lock
  -- a thread that asked for a lock waits for it, and no other thread waits
  pub waits : (t : ℕ) (lock : Lock) → Asks m.slots t lock → Contains m.waiters (record { thread = t; lock = lock })
  pub asked : (w : Waiter) → Contains m.waiters w → Asks m.slots w.thread w.lock
  -- the manager has a place for each lock, a value for each cell and a slot for each thread
  pub distinct : AreDistinct m.layout.locks
  pub lock_count : length m.places ≡ length m.layout.locks
  pub cell_count : length m.layout.opening ≡ length m.layout.cell_locks
  pub thread_count : length m.slots ≡ threads

-- ---- who waits for whom

-- a thread's part in waiting
abbrev pub asker_of : Option SessionOf → Asker
asker_of None = record { held = []; ask = None }
asker_of (Some s) = record { held = s.held; ask = s.ask }

abbrev pub askers_of : Managed → List Asker
askers_of m = map asker_of m.slots
