-- The contracts between the parts of a call, and of a run of all scripts. It mirrors the code: nobody has to believe
-- it.
use Rattle.std.specs.Prelude.{◌≡◌, ◌≤◌, ◌<◌, ◌+◌, ℕ, true, List, [], ◌∷◌, ◌++◌, length, map, Some, None, slice_get, slice_index_or}
use Rattle.core_lang.specs.declared.value.Outcome.{Outcome}
use Rattle.core_lang.specs.declared.tree.Section.{Section}
use Rattle.core_lang.specs.declared.typed.Call.{Call}
use Rattle.core_lang.specs.Serial.{Invocation, invocation}
use Rattle.core_lang.specs.Typing.{HasCells}
use Rattle.core_lang.specs.WellFormed.{CanCall}
use Rattle.core_lang_helpers.specs.Prints.{most_prints}
use Rattle.code.specs.Memory.{Agrees, none_held}
use Rattle.history.specs.Commits.{Commit, committed, IsTrueCommit}
use Rattle.lowering.specs.Plans.{Plan}
use Rattle.worlds.specs.Worlds.{call_at}
use Rattle.runner.specs.Working.Opens.{ReadyOf, PoisedOf, OpenOf, IsItsEntry, entry_of}
use Rattle.workers.specs.Seats.{SeatOf, AreBegunInTurn, reply}
use Rattle.workers.specs.Answers.{IsAnswer, AnswersAreIn, reply_at, replies_of, in_step, call_in, script_at}
use Rattle.workers.specs.Logs.{IsSound, NoneOf}
use Rattle.workers.specs.Seen.{SeenIsIn}
use Rattle.workers.specs.Working.Guarding.{AreCallable}
use Rattle.workers.specs.declared.seat.Done.{Done}

-- ---- a seat

-- what the seat has seen is sound. The number of its next call is that of its answers, and its entries among those that
-- it has seen have the numbers below, in order
pub record IsSeat (plan : Plan) (thread step : ℕ) (log : List Commit) : Type 0 where
  pub few : thread < 64
  pub step_is : step ≡ length (replies_of thread 0 log)
  pub steps : in_step thread 0 log ≡ true
  pub begun : AreBegunInTurn 0 (replies_of thread 0 log)
  pub sound : IsSound plan log

-- what the seat has seen is a prefix of a history, which has no further entry of its thread
pub record IsIn (log : List Commit) (s : SeatOf) : Type 0 where
  pub answers : AnswersAreIn log s
  pub seen : SeenIsIn log s

-- ---- the parts of a call

-- the call that was prepared has begun
pub record IsBegun (p : PoisedOf) (o : OpenOf) : Type 0 where
  pub plan : o.plan ≡ p.plan
  pub thread : o.thread ≡ p.thread
  pub step : o.step ≡ p.step
  pub call : o.activation.call ≡ p.call
  pub nothing : o.activation.machine.memory ≡ none_held

-- the call that was prepared has begun, and its section may have got further
pub record IsBegunOn (p : PoisedOf) (o : OpenOf) : Type 0 where
  pub plan : o.plan ≡ p.plan
  pub thread : o.thread ≡ p.thread
  pub step : o.step ≡ p.step
  pub call : o.activation.call ≡ p.call

-- a call of a thread has begun, and its section may have got further
pub record HasBegun (plan : Plan) (call : Invocation) (ready : ReadyOf) (o : OpenOf) : Type 0
  where
    pub plan_is : o.plan ≡ plan
    pub thread : o.thread ≡ ready.thread
    pub step : o.step ≡ ready.step
    pub call_is : o.activation.call ≡ call

-- there is room for all that one run of the section prints
abbrev pub HasRoomFor : Plan → ℕ → ℕ → Type 0
HasRoomFor plan number room =
    (section : Section) → slice_get plan.program.sections.items number ≡ Some section → most_prints section ≤ room

-- the section's entry follows a sound log of this length, of calls that can be made; it is true, and read what that log
-- left. The section began when the log had at least `floor` entries
pub record IsEntered (plan : Plan) (floor : ℕ) (o : OpenOf) (position : ℕ) : Type 0 where
  pub log : List Commit
  pub long : length log ≡ position
  pub sound : IsSound plan log
  pub callable : AreCallable plan.program log
  pub cells : HasCells plan.program (committed plan.layout.opening log)
  pub agrees : Agrees (committed plan.layout.opening log) o.activation.machine.memory.reads
  pub is_true : (outcome : Outcome) → o.activation.outcome ≡ Some outcome →
      IsTrueCommit plan.program (entry_of o outcome)
  pub above : floor ≤ o.activation.begun
  pub begun : o.activation.begun ≤ position

-- the answer has the outcome and the prints of the entry
pub record IsNotedOf (entry : Commit) (told : Done) : Type 0 where
  pub outcome : told.outcome ≡ entry.outcome
  pub prints : told.prints.items ≡ entry.prints

-- entries of other threads were seen up to a position, and there this entry
pub record SeesOwn (thread position : ℕ) (entry : Commit) (old new : List Commit) : Type 0 where
  pub between : List Commit
  pub is : new ≡ (old ++ between) ++ entry ∷ []
  pub others : NoneOf thread between
  pub long : length (old ++ between) ≡ position

-- entries of other threads were seen up to a position, and there the entry of the section
pub record SeesItsOwn (o : OpenOf) (position : ℕ) (old new : List Commit) : Type 0 where
  pub entry : Commit
  pub its : IsItsEntry o entry
  pub seen : SeesOwn o.thread position entry old new

-- an answered call: its answer, the thread with the number of its next call, and what its seat has seen then, with the
-- call's entry last
pub record HasAnswer (plan : Plan) (call : Invocation) (ready : ReadyOf) (old : List Commit) (ready' : ReadyOf)
    (told : Done) (new : List Commit) : Type 0 where
  pub answer : IsAnswer plan call told.position told.outcome told.prints.items
  pub ready_is : ready' ≡ record { thread = ready.thread; step = ready.step + 1 }
  pub entry : Commit
  pub own : entry.thread ≡ ready.thread
  pub step : entry.step ≡ ready.step
  pub reply_is : reply_at told.position entry ≡ reply told.position entry.begun call told.outcome told.prints.items
  pub above : length old ≤ entry.begun
  pub at_most : entry.begun ≤ told.position
  pub seen : SeesOwn ready.thread told.position entry old new
  pub sound : IsSound plan new

-- ---- scripts

-- a thread has no call of this number
abbrev pub NoCall : Plan → ℕ → ℕ → Type 0
NoCall plan t step = call_at plan t step ≡ None

-- the thread's call of this number is the given one, and it fits its section
pub record IsCall (plan : Plan) (t step : ℕ) (call : Call) : Type 0 where
  pub is : call_at plan t step ≡ Some (invocation call)
  pub fits : CanCall plan.program call.section call.arguments.items

-- the thread has `count` calls
pub record HasCalls (plan : Plan) (t count : ℕ) : Type 0 where
  pub script : List Invocation
  pub is : script_at plan t ≡ Some script
  pub long : length script ≡ count

-- the list has the seats of all threads in order, each with answers to exactly the calls of its thread's script
pub record AreInOrder (plan : Plan) (count : ℕ) (seats : List SeatOf) : Type 0 where
  pub long : length seats ≡ count
  pub threads : (k : ℕ) (d : SeatOf) → k < length seats → (slice_index_or seats k d).thread ≡ k
  pub calls : (k : ℕ) (d : SeatOf) → k < length seats →
      Some (map call_in (slice_index_or seats k d).answers) ≡ script_at plan (slice_index_or seats k d).thread
