-- The status of a thread.
use Rattle.std.specs.Prelude.{ℕ, slice_get, Option, Some, None}
use Rattle.core_lang.specs.Serial.{Invocation}
use Rattle.locks.specs.declared.lock.Lock.{Lock}
use Rattle.lowering.specs.Plans.{Plan}
use Rattle.worlds.specs.Waiting.{first_if}
use Rattle.worlds.specs.Worlds.{World, ThreadState, Activation, call_at, holder}
use Rattle.interleavings.specs.declared.status.ThreadStatus.{ThreadStatus}
use Rattle.interleavings.specs.declared.status.ThreadStatus.TheVariants as status

-- the status without an open section: whether a call is left
abbrev pub calling : Option Invocation → ThreadStatus
calling None = status.Idle
calling (Some call) = status.Ready

-- the status of a thread that has asked for a lock: it waits if a thread holds the lock, and runs otherwise
abbrev pub wanting : Lock → Option ℕ → ThreadStatus
wanting lock None = status.Running
wanting lock (Some holder) = status.Waits lock holder

-- the status of a thread with an open section, by the holder of each lock and the lock that the section has asked for,
-- if any
abbrev pub asking : (Lock → Option ℕ) → Option Lock → ThreadStatus
asking holder_now None = status.Running
asking holder_now (Some lock) = wanting lock (holder_now lock)

-- the status of a thread that has made this number of calls, with its open section, if it has one
abbrev pub section_status : Plan → World → ℕ → ℕ → Option Activation → ThreadStatus
section_status plan w t step None = calling (call_at plan t step)
section_status plan w t step (Some a) = asking (holder w) (first_if a.asked a.pending)

-- the status of a thread by its state; an unknown thread is idle
abbrev pub thread_status : Plan → World → ℕ → Option ThreadState → ThreadStatus
thread_status plan w t None = status.Idle
thread_status plan w t (Some thread) = section_status plan w t thread.step thread.active

-- the status of a thread: no call is left, a call is to begin, it waits for a lock that it has asked for and that a
-- thread holds now, or it is running
abbrev pub status_of : Plan → World → ℕ → ThreadStatus
status_of plan w t = thread_status plan w t (slice_get w.threads t)
