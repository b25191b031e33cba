-- The lock manager and its open sections, as data.
use Rattle.std.specs.Prelude.{◌≡◌, ℕ, List, slice_get, Option, None}
use Rattle.core_lang.specs.declared.value.Value.{Value}
use Rattle.core_lang.specs.Typing.{lookup}
use Rattle.locks.specs.declared.lock.Lock.{Lock}
use Rattle.layout.specs.declared.room.Room.{Room}
use Rattle.layout.specs.Layouts.{LayoutOf}
use Rattle.history.specs.Commits.{Commit}
use Rattle.lock_manager.specs.declared.places.LockPlace.{LockPlace}
use Rattle.lock_manager.specs.declared.queue.Waiter.{Waiter}

-- an open section: the length of the history when it began; the locks that it holds, the oldest first. The lock that it
-- has asked for and not yet been granted, and the most that it can need
pub record SessionOf : Type 0 where
  pub begun : ℕ
  pub held : List Lock
  pub ask : Option Lock
  pub room : Room

-- a manager: the program's layout and the ranks of its lock classes. `places`: for each lock, by its number, where its
-- cells are. `waiters`: the waiting threads, in the order in which they first asked. `slots`: the open section of each
-- thread. `history`: the entries, and `values`: what they leave in each cell
pub record Managed : Type 0 where
  pub layout : LayoutOf
  pub ranks : List ℕ
  pub places : List LockPlace
  pub waiters : List Waiter
  pub slots : List (Option SessionOf)
  pub history : List Commit
  pub values : List Value

-- the open section of a thread, if it has one; the list has one slot for each thread
abbrev pub session_in : List (Option SessionOf) → ℕ → Option SessionOf
session_in slots t = lookup (slice_get slots t) (λ s. s)

-- the open section of a thread of the manager, if it has one
abbrev pub session_of : Managed → ℕ → Option SessionOf
session_of m t = session_in m.slots t

-- no thread has an open section
abbrev pub IsQuiet : Managed → Type 0
IsQuiet m = (t : ℕ) → session_of m t ≡ None
