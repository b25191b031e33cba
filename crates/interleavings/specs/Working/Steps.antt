-- The effect of one step on the manager and on the state of one thread. Nobody has to believe this file.
use Rattle.std.specs.Prelude.{◌≡◌, ◌<◌, ℕ, Some, None, Result, Ok, Err}
use Rattle.core_lang.specs.declared.typed.Call.{Call}
use Rattle.core_lang.specs.Serial.{Invocation, invocation}
use Rattle.core_lang.specs.WellFormed.{CanCall}
use Rattle.lock_manager.specs.Working.Sessions.{ReceiptOf}
use Rattle.lock_manager.specs.Manager.{Managed, session_of}
use Rattle.lock_manager.specs.Working.Managers.{holder_of}
use Rattle.lowering.specs.Plans.{Plan}
use Rattle.source.specs.declared.memory.NoMemory.{NoMemory}
use Rattle.runner.specs.Working.Opens.{OpenOf, ReadyOf, Began, Gets, Waits, Released, IsKnown, CanBeReleased, moved}
use Rattle.runner.specs.Working.Answers.{open_of, IsNamed}
use Rattle.runner.specs.declared.states.Next.{Next}
use Rattle.worlds.specs.declared.event.Event.{Event}
use Rattle.worlds.specs.declared.event.Event.TheVariants as event
use Rattle.worlds.specs.Worlds.{call_at}
use Rattle.locks.specs.declared.lock.Lock.{Lock}
use Rattle.interleavings.specs.declared.state.TypedState.{TypedState}
use Rattle.interleavings.specs.declared.state.TypedState.TheVariants as state
use Rattle.worlds.specs.Waiting.{first_if}
use Rattle.interleavings.specs.declared.status.ThreadStatus.{ThreadStatus}
use Rattle.interleavings.specs.declared.status.ThreadStatus.TheVariants as status
use Rattle.interleavings.specs.declared.coming.Coming.{Coming}
use Rattle.interleavings.specs.declared.coming.Coming.TheVariants as coming
use Rattle.interleavings.specs.Statuses.{calling, asking}
use Rattle.interleavings.specs.Working.States.{state_of}

-- ---- a step of each kind

-- the next call began
pub record Begun (plan : Plan) (m : Managed) (r : ReadyOf) (x : TypedState) (m' : Managed) : Type 0 where
  pub call : Invocation
  pub call_is : call_at plan r.thread r.step ≡ Some call
  pub section : OpenOf
  pub state_is : x ≡ state.Running section
  pub began : Began m r plan call section m'

-- an instruction was run
pub record Moved (m : Managed) (o : OpenOf) (x : TypedState) (m' : Managed) : Type 0 where
  pub next : Next
  pub state_is : x ≡ state_of next
  pub is : open_of next ≡ moved o
  pub named : IsNamed next
  pub manager : m' ≡ m

-- a lock was granted
pub record Got (m : Managed) (o : OpenOf) (lock : Lock) (x : TypedState) (m' : Managed) : Type 0 where
  pub next : Next
  pub state_is : x ≡ state_of next
  pub gets : Gets m o (open_of next) m'
  pub named : IsNamed next
  pub lock_is : gets.lock ≡ lock

-- the section waits: another thread holds the lock
pub record Refused (m : Managed) (o : OpenOf) (lock : Lock) (holder : ℕ) (x : TypedState) (m' : Managed) : Type 0 where
  pub section : OpenOf
  pub state_is : x ≡ state.Asking section
  pub waits : Waits m o holder section m'
  pub lock_is : waits.lock ≡ lock

-- the section ended
pub record Over (m : Managed) (o : OpenOf) (position : ℕ) (x : TypedState) (m' : Managed) : Type 0 where
  pub ready : ReadyOf
  pub receipt : ReceiptOf
  pub state_is : x ≡ state.Ready ready
  pub released : Released m o ready receipt m'
  pub position_is : receipt.position ≡ position

-- ---- one step of any kind

-- nothing has changed
abbrev pub Stays : Managed → TypedState → TypedState → Managed → Type 0
Stays m x x' m' = (x' ≡ x) × (m' ≡ m)

abbrev pub ReadySteps : Plan → Managed → ReadyOf → Event → TypedState → Managed → Type 0
ReadySteps plan m r event.Idle x m' = (call_at plan r.thread r.step ≡ None) × Stays m (state.Ready r) x m'
ReadySteps plan m r event.Began x m' = Begun plan m r x m'
ReadySteps plan m r _ x m' = ⊥

abbrev pub RunningSteps : Managed → OpenOf → Event → TypedState → Managed → Type 0
RunningSteps m o event.Moved x m' = Moved m o x m'
RunningSteps m o _ x m' = ⊥

abbrev pub AskingSteps : Managed → OpenOf → Event → TypedState → Managed → Type 0
AskingSteps m o (event.Got lock) x m' = Got m o lock x m'
AskingSteps m o (event.Waits lock holder) x m' = Refused m o lock holder x m'
AskingSteps m o _ x m' = ⊥

abbrev pub EndedSteps : Managed → OpenOf → Event → TypedState → Managed → Type 0
EndedSteps m o (event.Ended position) x m' = Over m o position x m'
EndedSteps m o _ x m' = ⊥

-- a step with this event leads from a state and a manager to these
abbrev pub Steps : Plan → Managed → TypedState → Event → TypedState → Managed → Type 0
Steps plan m state.Away e x m' = ⊥
Steps plan m (state.Ready r) e x m' = ReadySteps plan m r e x m'
Steps plan m (state.Running o) e x m' = RunningSteps m o e x m'
Steps plan m (state.Asking o) e x m' = AskingSteps m o e x m'
Steps plan m (state.Ended o) e x m' = EndedSteps m o e x m'

-- a call of the thread is left
abbrev pub HasCall : Plan → ReadyOf → Type 0
HasCall plan r = (call : Invocation) × (call_at plan r.thread r.step ≡ Some call)

-- memory can run out only if a call would begin, and then all is as it was
abbrev pub Refuses : Plan → Managed → TypedState → TypedState → Managed → Type 0
Refuses plan m (state.Ready r) x m' = HasCall plan r × Stays m (state.Ready r) x m'
Refuses plan m _ x m' = ⊥

abbrev pub Stepped : Plan → Managed → TypedState → Result Event NoMemory → TypedState → Managed → Type 0
Stepped plan m y (Ok e) x m' = Steps plan m y e x m'
Stepped plan m y (Err e) x m' = Refuses plan m y x m'

-- ---- requirements of a step

-- the thread has no open section
pub record CanBegin (m : Managed) (r : ReadyOf) : Type 0 where
  pub thread : r.thread < 64
  pub closed : session_of m r.thread ≡ None

abbrev pub CanStep : Managed → TypedState → Type 0
CanStep m state.Away = ⊥
CanStep m (state.Ready r) = CanBegin m r
CanStep m (state.Running o) = Unit {0}
CanStep m (state.Asking o) = IsKnown m o
CanStep m (state.Ended o) = CanBeReleased m o

-- ---- calls

-- a thread has no call of this number
abbrev pub HasNoCall : Plan → ℕ → ℕ → Type 0
HasNoCall plan t step = call_at plan t step ≡ None

-- this is the thread's call of this number, and it fits its section
pub record IsCall (plan : Plan) (t step : ℕ) (call : Call) : Type 0 where
  pub is : call_at plan t step ≡ Some (invocation call)
  pub fits : CanCall plan.program call.section call.arguments.items

-- ---- statuses

-- the status of a section that is to be granted a lock
abbrev pub asking_at : Managed → OpenOf → ThreadStatus
asking_at m o = asking (holder_of m) (first_if o.activation.asked o.activation.pending)

-- the status of a thread in this state
abbrev pub status_at : Plan → Managed → TypedState → ThreadStatus
status_at plan m state.Away = status.Idle
status_at plan m (state.Ready r) = calling (call_at plan r.thread r.step)
status_at plan m (state.Running o) = status.Running
status_at plan m (state.Asking o) = asking_at m o
status_at plan m (state.Ended o) = status.Running

-- ---- the next step

-- the kind of the next step of a thread in this state
abbrev pub coming_at : TypedState → Coming
coming_at state.Away = coming.Other
coming_at (state.Ready r) = coming.Call r.step
coming_at (state.Running o) = coming.Instruction o.activation.call.section o.activation.machine.place
coming_at (state.Asking o) = coming.Other
coming_at (state.Ended o) = coming.Other
