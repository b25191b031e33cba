-- The length of the log when each lock was last given back. It mirrors the code: nobody has to believe it.
use Rattle.std.specs.Prelude.{◌≡◌, ◌≤◌, ◌⊎◌, ℕ, List, drop, slice_get, slice_index_or, Some}
use Rattle.std.specs.List.{Contains}
use Rattle.locks.specs.declared.lock.Lock.{Lock}
use Rattle.layout.specs.Layouts.{LayoutOf}
use Rattle.code.specs.Memory.{IsPartOf}
use Rattle.history.specs.Commits.{Commit, committed, NoneWrites}
use Rattle.lowering.specs.Plans.{Plan}
use Rattle.runner.specs.Working.Opens.{OpenOf}
use Rattle.runner.specs.Working.Laws.{AreSameOn}
use Rattle.runner.specs.Working.Answers.{open_of}
use Rattle.runner.specs.declared.states.Asked.{Asked}
use Rattle.runner.specs.declared.states.Asked.TheVariants.{Got, Waits}

-- for each lock, by its number, the length of the log when the lock was last given back with an entry; 0 if it never
-- was
pub record LockEndsOf : Type 0 where
  pub layout : LayoutOf
  pub ends : List ℕ

-- the lock was last given back when the log had at most `floor` entries
pub record IsBefore (e : LockEndsOf) (floor : ℕ) (lock : Lock) : Type 0 where
  pub number : ℕ
  pub at : slice_get e.layout.locks number ≡ Some lock
  pub before : slice_index_or e.ends number 0 ≤ floor

-- these locks are given back when the log has `long` entries; the number of another lock becomes `long` or stays
pub record AreGivenBack (e : LockEndsOf) (locks : List Lock) (long : ℕ) (e' : LockEndsOf) : Type 0 where
  pub layout : e'.layout ≡ e.layout
  pub given : (n : ℕ) (lock : Lock) → slice_get e.layout.locks n ≡ Some lock → Contains locks lock →
      slice_index_or e'.ends n 0 ≡ long
  pub others : (n : ℕ) → (slice_index_or e'.ends n 0 ≡ long) ⊎ (slice_index_or e'.ends n 0 ≡ slice_index_or e.ends n 0)

-- no entry after a lock was last given back writes a cell of it
abbrev pub AreEndsOf : LockEndsOf → List Commit → Type 0
AreEndsOf e log =
    (n cell : ℕ) (lock : Lock) → slice_get e.layout.locks n ≡ Some lock → slice_get e.layout.cell_locks cell ≡ Some lock →
    NoneWrites cell (drop (slice_index_or e.ends n 0) log)

-- ---- the knowledge of a thread of its open section, from one hold of the Mutex to the next

-- the cells of these locks have the values that a log which was seen leaves
abbrev pub AreAsSeen : Plan → List Lock → List Commit → List Commit → Type 0
AreAsSeen plan locks seen log =
    AreSameOn plan.layout locks (committed plan.layout.opening seen) (committed plan.layout.opening log)

-- the cells of an open section are part of what a log leaves
abbrev pub IsPartAt : Plan → List Commit → OpenOf → Type 0
IsPartAt plan log o = IsPartOf (committed plan.layout.opening log) o.activation.machine.memory

-- a section that asked for a lock
abbrev pub asked_open : Asked → OpenOf
asked_open (Got next) = open_of next
asked_open (Waits o holder) = o
