-- The waiting threads, and the locks for which they wait.
use Rattle.std.specs.Prelude.{ℕ, nat_eq, if◌then◌else◌, List, [], ◌∷◌, ◌++◌, Option, Some, None}
use Rattle.locks.specs.declared.lock.Lock.{Lock}
use Rattle.locks.specs.Locks.{same_lock}
use Rattle.lock_manager.specs.declared.queue.Waiter.{Waiter}

-- the threads that wait for a lock, in the order in which they first asked
abbrev pub waiting_in : List Waiter → Lock → List ℕ
waiting_in [] lock = []
waiting_in (w ∷ ws) lock = if same_lock w.lock lock then w.thread ∷ waiting_in ws lock else waiting_in ws lock

-- the waiters without those of a thread
abbrev pub leaving : ℕ → List Waiter → List Waiter
leaving t [] = []
leaving t (w ∷ ws) = if nat_eq w.thread t then leaving t ws else w ∷ leaving t ws

-- the waiters with a new one last; one that asked before keeps its place
abbrev pub joining : Option Lock → Waiter → List Waiter → List Waiter
joining None w ws = ws ++ w ∷ []
joining (Some asked) w ws = ws
