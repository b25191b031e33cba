-- The locks that an open section holds, to be found by lock. Nobody has to believe these.
use Rattle.std.specs.Prelude.{◌≡◌, ◌≢◌, ◌<◌, ◌≤◌, ℕ, ◌+◌, List, [], ◌∷◌, ◌++◌, length, take, slice_get, Some, ⊤}
use Rattle.locks.specs.declared.lock.Lock.{Lock}
use Rattle.layout.specs.LockCells.{cells_of, IsSlot}
use Rattle.moved_cells.specs.Working.Grants.{GrantOf}
use Rattle.runner_machine.specs.declared.held_lock.HeldLock.{HeldLock}

-- the number of cells of these locks together
abbrev pub values_in : List HeldLock → ℕ
values_in [] = 0
values_in (h ∷ hs) = h.count + values_in hs

-- the locks from `head` to `end` are of one class, and their objects rise
abbrev pub RiseWithin : List HeldLock → ℕ → ℕ → Type 0
RiseWithin hs head end =
    (k m : ℕ) (a b : HeldLock) → head ≤ k → k < m → m < end → slice_get hs k ≡ Some a → slice_get hs m ≡ Some b →
    (a.lock.class ≡ b.lock.class) × (a.lock.object < b.lock.object)

-- a held lock has the number of the cells before it, and the begin of its run
pub record IsInRun (hs : List HeldLock) (i : ℕ) (h : HeldLock) : Type 0 where
  pub first_is : h.first ≡ values_in (take i hs)
  pub begun : h.head ≤ i
  pub rise : RiseWithin hs h.head (i + 1)

-- the invariant of held locks
abbrev pub AreInRuns : List HeldLock → Type 0
AreInRuns hs = (i : ℕ) (h : HeldLock) → slice_get hs i ≡ Some h → IsInRun hs i h

-- where the run of a lock begins, if it comes next
pub record IsHead (hs : List HeldLock) (lock : Lock) (head : ℕ) : Type 0 where
  pub begun : head ≤ length hs
  pub rise : RiseWithin hs head (length hs)
  pub to : (i : ℕ) (h : HeldLock) → head ≤ i → slice_get hs i ≡ Some h →
      (h.lock.class ≡ lock.class) × (h.lock.object < lock.object)

-- one more lock is held
pub record Holds (hs : List HeldLock) (lock : Lock) (count : ℕ) (hs' : List HeldLock) : Type 0 where
  pub next : HeldLock
  pub is : hs' ≡ hs ++ next ∷ []
  pub lock_is : next.lock ≡ lock
  pub count_is : next.count ≡ count
  pub runs : AreInRuns hs'

-- the lock is held
pub record IsHeldAt (hs : List HeldLock) (lock : Lock) (i : ℕ) : Type 0 where
  pub held : HeldLock
  pub is : slice_get hs i ≡ Some held
  pub lock_is : held.lock ≡ lock

-- the lock is not held
abbrev pub IsNowhere : List HeldLock → Lock → Type 0
IsNowhere hs lock = (i : ℕ) (h : HeldLock) → slice_get hs i ≡ Some h → h.lock ≢ lock

-- a held lock from `head` to `end` has the object
pub record IsObjectAt (hs : List HeldLock) (head end object i : ℕ) : Type 0 where
  pub held : HeldLock
  pub after : head ≤ i
  pub before : i < end
  pub is : slice_get hs i ≡ Some held
  pub object_is : held.lock.object ≡ object

-- no held lock from `head` to `end` has the object
abbrev pub IsObjectNowhere : List HeldLock → ℕ → ℕ → ℕ → Type 0
IsObjectNowhere hs head end object =
    (i : ℕ) (h : HeldLock) → head ≤ i → i < end → slice_get hs i ≡ Some h → h.lock.object ≢ object

-- ---- their cells

-- each held lock has the number of its cells
abbrev pub AreCounted : List Lock → List HeldLock → Type 0
AreCounted cell_locks hs =
    (i : ℕ) (h : HeldLock) → slice_get hs i ≡ Some h → h.count ≡ length (cells_of cell_locks h.lock)

-- the held lock that has a cell, the cell's offset there, and its place
pub record IsPlace (cell_locks : List Lock) (hs : List HeldLock) (cell index offset place : ℕ) : Type 0 where
  pub held : HeldLock
  pub is : slice_get hs index ≡ Some held
  pub slot : IsSlot cell_locks cell held.lock offset
  pub place_is : place ≡ held.first + offset

-- no held lock has the cell
pub record HasNoPlace (cell_locks : List Lock) (hs : List HeldLock) (cell : ℕ) : Type 0 where
  pub other : (lock : Lock) → slice_get cell_locks cell ≡ Some lock → IsNowhere hs lock

-- ---- their grants

-- the locks of grants, and the numbers of their cells
abbrev pub AreHeld : List GrantOf → List HeldLock → Type 0
AreHeld [] [] = ⊤
AreHeld [] (h ∷ hs) = ⊥
AreHeld (g ∷ gs) [] = ⊥
AreHeld (g ∷ gs) (h ∷ hs) = (h.lock ≡ g.lock) × (h.count ≡ length g.values) × AreHeld gs hs
