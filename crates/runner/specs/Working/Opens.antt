-- Open sections as data, and the effect of their calls.
use Rattle.std.specs.Prelude.{◌≡◌, ◌≢◌, ◌<◌, ◌≤◌, ◌+◌, ◌^◌, ℕ, zero, suc, true, List, [], ◌∷◌, length, Some, None}
use Rattle.std.specs.List.{All, Contains}
use Rattle.source.specs.Limits.{PRINT_LIMIT}
use Rattle.core_lang.specs.declared.value.Value.{Value}
use Rattle.core_lang.specs.declared.value.Outcome.{Outcome}
use Rattle.core_lang.specs.Serial.{Invocation}
use Rattle.core_lang.specs.Typing.{IsHeap}
use Rattle.locks.specs.declared.lock.Lock.{Lock}
use Rattle.locks.specs.Order.{Precedes}
use Rattle.layout.specs.declared.room.Room.{Room}
use Rattle.layout.specs.LockCells.{cells_of}
use Rattle.moved_cells.specs.Working.Grants.{GrantOf, IsWhole, numbered, locks_of}
use Rattle.runner_machine.specs.Working.Held.{cells_granted}
use Rattle.history.specs.Commits.{Commit, IsTrueCommit}
use Rattle.lock_manager.specs.declared.places.LockPlace.TheVariants.{Free, Taken}
use Rattle.lock_manager.specs.Manager.{SessionOf}
use Rattle.lock_manager.specs.Working.Sessions.{TicketOf, ReceiptOf}
use Rattle.lock_manager.specs.Manager.{Managed}
use Rattle.lock_manager.specs.Working.Managers.{place_of}
use Rattle.lock_manager.specs.Working.Calls.{Begins, Knows, CanRelease, Releases, GivesUp, after_grant, after_refusal}
use Rattle.lowering.specs.Plans.{Plan, IsCompiled}
use Rattle.worlds.specs.Worlds.{Activation, activation, granted, instructed, next_effect, commit}
use Rattle.worlds.specs.Waiting.{first_if}
use Rattle.worlds.specs.Working.InOrder.{IsInOrder, SufficesFor}

-- a thread with no section open, and the number of its next call
pub record ReadyOf : Type 0 where
  pub thread : ℕ
  pub step : ℕ

-- an open section: its program's plan, its thread, the number of the call among the thread's calls, the most that it
-- can need, and its progress
pub record OpenOf : Type 0 where
  pub plan : Plan
  pub thread : ℕ
  pub step : ℕ
  pub room : Room
  pub activation : Activation

-- the same section, further on
abbrev pub further : OpenOf → Activation → OpenOf
further o a = record o { activation = a }

-- the same section at a later time: the plan, thread, call, room and begin are equal
pub record IsSame (o o' : OpenOf) : Type 0 where
  pub plan : o'.plan ≡ o.plan
  pub thread : o'.thread ≡ o.thread
  pub step : o'.step ≡ o.step
  pub room : o'.room ≡ o.room
  pub call : o'.activation.call ≡ o.activation.call
  pub begun : o'.activation.begun ≡ o.activation.begun

-- the section in its ticket
abbrev pub session_of_open : OpenOf → SessionOf
session_of_open o = record {
  begun = o.activation.begun;
  held = o.activation.held;
  ask = first_if o.activation.asked o.activation.pending;
  room = o.room;
}

abbrev pub ticket_of : OpenOf → TicketOf
ticket_of o = record { thread = o.thread; session = session_of_open o }

-- the list has exactly the grants of the section, the oldest first
pub record AreItsGrants (o : OpenOf) (grants : List GrantOf) : Type 0 where
  pub locks : locks_of grants ≡ o.activation.held
  pub whole : All (IsWhole o.plan.layout.cell_locks) grants
  pub cells : cells_granted o.plan.layout.cell_locks grants ≡ o.activation.machine.memory.cells

-- ---- the calls

-- a thread for whose next call all memory is allocated
pub record PoisedOf : Type 0 where
  pub plan : Plan
  pub thread : ℕ
  pub step : ℕ
  pub room : Room
  pub call : Invocation

-- the thread, with no section open
abbrev pub ready_of : PoisedOf → ReadyOf
ready_of p = record { thread = p.thread; step = p.step }

-- the thread is prepared for a call of a section of the plan
abbrev pub Prepares : ReadyOf → Plan → Invocation → PoisedOf → Type 0
Prepares ready plan call p = p ≡ record { plan = plan; thread = ready.thread; step = ready.step; room = p.room; call = call }

-- a thread without an open section begins a call
pub record Began (m : Managed) (ready : ReadyOf) (plan : Plan) (call : Invocation) (o : OpenOf) (m' : Managed) : Type 0
  where
    pub room : SufficesFor plan call.section o.room
    pub is : o ≡ record {
      plan = plan;
      thread = ready.thread;
      step = ready.step;
      room = o.room;
      activation = activation plan (length m.history) call;
    }
    pub begins : Begins m ready.thread o.room (ticket_of o) m'

-- the section after its next instruction
abbrev pub moved : OpenOf → OpenOf
moved o = further o (instructed o.plan o.activation (next_effect o.plan o.activation))

-- the section has no pending lock and no outcome, so that its next step is an instruction
abbrev pub IsRunning : OpenOf → Type 0
IsRunning o = (o.activation.pending ≡ []) × (o.activation.outcome ≡ None)

-- the section after the given number of instructions
abbrev pub moved_by : ℕ → OpenOf → OpenOf
moved_by zero o = o
moved_by (suc n) o = moved (moved_by n o)

-- the section has run `count` instructions, at most `most`. It has run fewer only if its next step is not an
-- instruction
pub record Ran (most : ℕ) (o : OpenOf) (count : ℕ) (o' : OpenOf) : Type 0 where
  pub is : o' ≡ moved_by count o
  pub running : (k : ℕ) → k < count → IsRunning (moved_by k o)
  pub within : count ≤ most
  pub stops : count < most → IsRunning o' → ⊥

-- the manager knows the section, and lends the cells of its program
pub record IsKnown (m : Managed) (o : OpenOf) : Type 0 where
  pub layout : m.layout ≡ o.plan.layout
  pub ranks : m.ranks ≡ o.plan.ranks
  pub known : Knows m (ticket_of o)
  pub heap : IsHeap o.plan.program m.values

-- the section is granted the first of its pending locks, with the lock's cells
pub record Gets (m : Managed) (o : OpenOf) (o' : OpenOf) (m' : Managed) : Type 0 where
  pub lock : Lock
  pub rest : List Lock
  pub values : List Value
  pub pending : o.activation.pending ≡ lock ∷ rest
  pub was_free : place_of m lock ≡ Some (Free values)
  pub is : o' ≡ further o (granted o.activation lock rest (numbered (cells_of o.plan.layout.cell_locks lock) values))
  pub manager : m' ≡ after_grant m (ticket_of o) lock

-- another thread holds the first of its pending locks, and the section has asked for it
pub record Waits (m : Managed) (o : OpenOf) (holder : ℕ) (o' : OpenOf) (m' : Managed) : Type 0 where
  pub lock : Lock
  pub rest : List Lock
  pub pending : o.activation.pending ≡ lock ∷ rest
  pub was_taken : place_of m lock ≡ Some (Taken holder)
  pub by_another : o.thread ≢ holder
  pub is : o' ≡ further o (record o.activation { asked = true })
  pub manager : m' ≡ after_refusal m (ticket_of o) lock

-- the entry of the section for an outcome
abbrev pub entry_of : OpenOf → Outcome → Commit
entry_of o outcome = commit o.thread o.step o.activation outcome

-- the section has ended, and this is its entry, with at most `PRINT_LIMIT` prints
pub record IsItsEntry (o : OpenOf) (entry : Commit) : Type 0 where
  pub over : o.activation.outcome ≡ Some entry.outcome
  pub is : entry ≡ entry_of o entry.outcome
  pub few : length entry.prints ≤ PRINT_LIMIT

-- the manager may release the section with its grants and its entry
abbrev pub CanGiveBack : Managed → OpenOf → Type 0
CanGiveBack m o =
    (grants : List GrantOf) (outcome : Outcome) → AreItsGrants o grants → o.activation.outcome ≡ Some outcome →
    CanRelease m (ticket_of o) grants (entry_of o outcome)

-- the section may be released, and the number of its thread's next call is below 2 ^ 64
pub record CanBeReleased (m : Managed) (o : OpenOf) : Type 0 where
  pub back : CanGiveBack m o
  pub step : o.step + 1 < 2 ^ 64

-- the section is released: its cells are back, its entry is in the history, and its thread has no open section
pub record Released (m : Managed) (o : OpenOf) (ready : ReadyOf) (receipt : ReceiptOf) (m' : Managed) : Type 0 where
  pub grants : List GrantOf
  pub outcome : Outcome
  pub its : AreItsGrants o grants
  pub over : o.activation.outcome ≡ Some outcome
  pub ready_is : ready ≡ record { thread = o.thread; step = o.step + 1 }
  pub releases : Releases m (ticket_of o) grants (entry_of o outcome) receipt m'

-- the thread of an open section, after the section was given up
abbrev pub ready_again : OpenOf → ReadyOf
ready_again o = record { thread = o.thread; step = o.step }

-- the section is given up, with all its grants
pub record GivenUp (m : Managed) (o : OpenOf) (m' : Managed) : Type 0 where
  pub grants : List GrantOf
  pub its : AreItsGrants o grants
  pub gives_up : GivesUp m (ticket_of o) grants m'

-- ---- what holds of every open section

-- the invariant of an open section: its program is compiled, the section is in order, and its room suffices
pub record IsOpen (o : OpenOf) : Type 0 where
  pub compiled : IsCompiled o.plan
  pub in_order : IsInOrder o.plan o.activation
  pub room : SufficesFor o.plan o.activation.call.section o.room

-- ---- the properties of its state

-- the first pending lock comes after all locks that the section holds
abbrev pub NextRises : OpenOf → Type 0
NextRises o =
    (lock other : Lock) (rest : List Lock) → o.activation.pending ≡ lock ∷ rest → Contains o.activation.held other →
    Precedes o.plan.ranks other lock

-- the entry of an ended section is true: from each heap that agrees with its reads, the section, run whole, ends as the
-- entry says
abbrev pub HasTrueEntry : OpenOf → Type 0
HasTrueEntry o =
    (outcome : Outcome) → o.activation.outcome ≡ Some outcome → IsTrueCommit o.plan.program (entry_of o outcome)
