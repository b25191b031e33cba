-- The claims about threads that run sections in C.
use Rattle.std.specs.Prelude.{◌≡◌, ◌<◌, ◌≤◌, ◌⊎◌, ℕ, false, List, [], ◌∷◌, ◌++◌, length, map, slice_get, Option, Some}
use Rattle.std.specs.Prelude.{None, ⊤}
use Rattle.std.proofs.Common.{Vec, Global}
use Rattle.std.specs.List.{Contains}
use Rattle.core_lang.specs.declared.value.Value.{Value}
use Rattle.core_lang.specs.declared.value.Outcome.{Outcome}
use Rattle.core_lang.specs.declared.typed.Thread.{Thread}
use Rattle.core_lang.specs.Serial.{Invocation, Ended, SerialFromOpening}
use Rattle.core_lang.specs.Typing.{lookup}
use Rattle.locks.specs.declared.lock.Lock.{Lock}
use Rattle.locks.specs.Locks.{lock_of_cell}
use Rattle.locks.specs.Waiting.{Asker, HasNoCycle}
use Rattle.code.specs.Memory.{load_from, store_to, value_at}
use Rattle.history.specs.Commits.{Commit, call_of, answer_of}
use Rattle.lowering.specs.Plans.{Plan, IsCompiled}
use Rattle.worlds.specs.Worlds.{World, Activation, HasOpen, code_at, scripts, call_at, final}
use Rattle.c_threads.specs.Outside.{AreCallsOf, with_scripts}
use Rattle.c_language.specs.Meaning.{held}
use Rattle.c_language.specs.declared.statement.Operand.{Operand}
use Rattle.c_language.specs.Groups.{Group}
use Rattle.c_language.specs.Alike.{IsFitting, AreFitting}
use Rattle.c_language.specs.InC.{AreShort}
use Rattle.c_threads.specs.Threads.{Entry, Progress, Taking, Over, Leaving, CallInC, ThreadInC, WorldInC, Goes, At}
use Rattle.c_threads.specs.Threads.{is_locked, spots_at, group_in, frame, step, final_in_c}
use Rattle.c_threads.specs.Accesses.{all_accesses}

-- ---- words

-- steps of these threads lead to the world, and C defines all that they do
abbrev pub Reaches : Plan → List ℕ → WorldInC → Type 0
Reaches plan steps w = final_in_c plan steps ≡ At w

-- the thread has this call under way
pub record Runs (w : WorldInC) (t : ℕ) (x : ThreadInC) (c : CallInC) : Type 0 where
  pub at : slice_get w.threads t ≡ Some x
  pub is : x.active ≡ Some c

-- numbers have 64 bits: those that the code of sections pushes, those of each call's arguments, and those of the
-- initial cells
pub record HasFittingNumbers (plan : Plan) : Type 0 where
  pub code : (k : ℕ) → AreShort (code_at plan k)
  pub arguments : (t k : ℕ) (call : Invocation) → call_at plan t k ≡ Some call → AreFitting call.arguments
  pub opening : AreFitting plan.layout.opening

-- ---- locks and accesses

-- no two threads have one lock locked
abbrev pub LocksAreApart : WorldInC → Type 0
LocksAreApart w =
    (t u : ℕ) (x y : ThreadInC) (lock : Lock) → slice_get w.threads t ≡ Some x → slice_get w.threads u ≡ Some y →
    Contains x.locked lock → Contains y.locked lock → t ≡ u

-- a thread has a lock locked only during a call
abbrev pub LocksAreGivenBack : WorldInC → Type 0
LocksAreGivenBack w = (t : ℕ) (x : ThreadInC) → slice_get w.threads t ≡ Some x → x.active ≡ None → x.locked ≡ []

-- the cells that a group of a call reads or writes, if there is one
abbrev pub accessed_in : WorldInC → Plan → CallInC → Option Group → List ℕ
accessed_in w plan c None = []
accessed_in w plan c (Some group) =
    all_accesses load_from store_to plan.program.shape group.statements (frame c w.cells)

-- the cells that the next group of a call reads or writes; none if a call of AL_LOCK is next, or the last group is done
abbrev pub next_accesses : WorldInC → Plan → CallInC → Progress → List ℕ
next_accesses w plan c (Taking []) =
    let k = c.call.section in
    accessed_in w plan c (lookup (slice_get (code_at plan k) c.place) (group_in plan k c.place))
next_accesses w plan c (Taking (lock ∷ locks)) = []
next_accesses w plan c (Over outcome) = []
next_accesses w plan c (Leaving outcome locks) = []

-- the cell is protected by a lock that the thread has locked
abbrev pub IsCovered : Plan → ThreadInC → ℕ → Type 0
IsCovered plan x cell = (lock : Lock) × (lock_of_cell plan.program cell ≡ Some lock) × Contains x.locked lock

-- each cell that the next group of a thread reads or writes is protected by a lock that the thread has locked
abbrev pub AccessesAreCovered : Plan → WorldInC → Type 0
AccessesAreCovered plan w =
    (t : ℕ) (x : ThreadInC) (c : CallInC) (cell : ℕ) → Runs w t x c →
    Contains (next_accesses w plan c c.progress) cell → IsCovered plan x cell

-- no two threads' next groups access one cell: no data race occurs
abbrev pub NoRaces : Plan → WorldInC → Type 0
NoRaces plan w =
    (t u : ℕ) (x y : ThreadInC) (c d : CallInC) (cell : ℕ) → Runs w t x c → Runs w u y d →
    Contains (next_accesses w plan c c.progress) cell → Contains (next_accesses w plan d d.progress) cell → t ≡ u

-- ---- waiting

-- the lock of the next call of AL_LOCK
abbrev pub next_lock : Progress → Option Lock
next_lock (Taking (lock ∷ locks)) = Some lock
next_lock (Taking []) = None
next_lock (Over outcome) = None
next_lock (Leaving outcome locks) = None

-- the lock that a call calls AL_LOCK for next, if there is one
abbrev pub asks : Option CallInC → Option Lock
asks None = None
asks (Some c) = next_lock c.progress

-- the locks that a thread has locked, and the lock that it calls AL_LOCK for next
abbrev pub asker : ThreadInC → Asker
asker x = record { held = x.locked; ask = asks x.active }

-- no threads wait for each other in a cycle, even while locks are released one by one
abbrev pub NobodyWaitsInACircle : WorldInC → Type 0
NobodyWaitsInACircle w = HasNoCycle (map asker w.threads)

-- if a call is under way, the next step of some thread leads to a further world
abbrev pub SomeoneGoesOn : Plan → WorldInC → Type 0
SomeoneGoesOn plan w =
    (t : ℕ) (x : ThreadInC) (c : CallInC) → Runs w t x c → (u : ℕ) × (next : WorldInC) × (step plan w u ≡ Goes next)

-- ---- numbers

-- numbers in cells, in variables and on the operand stack have 64 bits
pub record NumbersFit (plan : Plan) (w : WorldInC) : Type 0 where
  pub cells : AreFitting w.cells
  pub variables : (t : ℕ) (x : ThreadInC) (c : CallInC) (locks : List Lock) → Runs w t x c → c.progress ≡ Taking locks →
      AreFitting c.variables
  pub operands : (t : ℕ) (x : ThreadInC) (c : CallInC) (locks : List Lock) (a : Operand) (v : Value) → Runs w t x c →
      c.progress ≡ Taking locks → Contains (spots_at plan c.call.section c.place).operands a →
      held a c.variables c.temporaries ≡ Some v → IsFitting v

-- ---- beside worlds

-- the entry of a finished section
abbrev pub entry_of : Commit → Entry
entry_of c = record { thread = c.thread; step = c.step; call = call_of c; begun = c.begun; answer = answer_of c }

-- the locks that are still to be granted
abbrev pub pending_of : Progress → List Lock
pending_of (Taking locks) = locks
pending_of (Over outcome) = []
pending_of (Leaving outcome locks) = []

-- the outcome of a call that is past its end
abbrev pub outcome_of : Progress → Option Outcome
outcome_of (Taking locks) = None
outcome_of (Over outcome) = Some outcome
outcome_of (Leaving outcome locks) = Some outcome

-- the entry of a call is not made yet
abbrev pub IsOpen : Progress → Type 0
IsOpen (Taking locks) = ⊤
IsOpen (Over outcome) = ⊤
IsOpen (Leaving outcome locks) = ⊥

-- a section of a world is in the state of a call in C
pub record StandsFor (a : Activation) (x : ThreadInC) (c : CallInC) : Type 0 where
  pub call : a.call ≡ c.call
  pub begun : a.begun ≡ c.begun
  pub locks : a.held ≡ x.locked
  pub pending : a.pending ≡ pending_of c.progress
  pub outcome : a.outcome ≡ outcome_of c.progress
  pub prints : a.machine.prints ≡ c.prints

-- a world of `worlds` stands for one in C: the history is the same, the sections open there are the calls whose entry
-- is not made yet, and each cell has in memory its value in the world, or in the section that holds it
pub record WorldStandsFor (w : World) (c : WorldInC) : Type 0 where
  pub history : map entry_of w.history ≡ c.history
  pub open_in_c : (t : ℕ) (a : Activation) → HasOpen w t a →
      (x : ThreadInC) × (call : CallInC) × Runs c t x call × IsOpen call.progress × StandsFor a x call
  pub open_in_world : (t : ℕ) (x : ThreadInC) (call : CallInC) → Runs c t x call → IsOpen call.progress →
      (a : Activation) × HasOpen w t a × StandsFor a x call
  pub free_cells : (cell : ℕ) (v : Value) → slice_get w.cells cell ≡ Some (Some v) → slice_get c.cells cell ≡ Some v
  pub held_cells : (t cell : ℕ) (a : Activation) (v : Value) → HasOpen w t a →
      value_at a.machine.memory.cells cell ≡ Some v → slice_get c.cells cell ≡ Some v
  pub all_cells : length c.cells ≡ length w.cells

-- every run in C is one of worlds: C defines all that it does, and some steps of the plan's world lead to a world that
-- stands for the one that is reached
abbrev pub EveryRunIsOfWorlds : Type 0
EveryRunIsOfWorlds =
    (plan : Plan) (steps : List ℕ) → IsCompiled plan → HasFittingNumbers plan →
    (w : WorldInC) × Reaches plan steps w × (others : List ℕ) × WorldStandsFor (final plan others) w

-- ---- the history

-- the history's calls, run serially from the initial cells, end and print as the history says, and leave this heap: as
-- calls of the accepted program
abbrev pub IsSerial : Plan → WorldInC → List Value → Type 0
IsSerial plan w heap =
    SerialFromOpening plan.accepted (map (λ (e : Entry). e.call) w.history) (map (λ (e : Entry). e.answer) w.history)
    heap

-- a cell whose lock no thread has locked has its value in the heap
abbrev pub FreeCellsAre : Plan → WorldInC → List Value → Type 0
FreeCellsAre plan w heap =
    (cell : ℕ) (lock : Lock) → lock_of_cell plan.program cell ≡ Some lock → is_locked w.threads lock ≡ false →
    slice_get w.cells cell ≡ slice_get heap cell

-- the history has an entry of the thread's call of this number, with this answer
pub record HasEntry (w : WorldInC) (t k : ℕ) (answer : Ended) : Type 0 where
  pub position : ℕ
  pub entry : Entry
  pub there : slice_get w.history position ≡ Some entry
  pub thread : entry.thread ≡ t
  pub number : entry.step ≡ k
  pub answered : entry.answer ≡ answer

-- the answer of each call that has returned is that of its entry. Each entry is for a call of its thread, and the
-- length of the history at its begin is at most the entry's position. No call has two entries
pub record HasEntries (plan : Plan) (w : WorldInC) : Type 0 where
  pub returned : (t k : ℕ) (x : ThreadInC) (answer : Ended) → slice_get w.threads t ≡ Some x →
      slice_get x.answers k ≡ Some answer → HasEntry w t k answer
  pub scripted : (p : ℕ) (e : Entry) → slice_get w.history p ≡ Some e → call_at plan e.thread e.step ≡ Some e.call
  pub begun : (p : ℕ) (e : Entry) → slice_get w.history p ≡ Some e → e.begun ≤ p
  pub once : (p q : ℕ) (e d : Entry) → slice_get w.history p ≡ Some e → slice_get w.history q ≡ Some d →
      e.thread ≡ d.thread → e.step ≡ d.step → p ≡ q

-- the thread's call of this number has returned
abbrev pub HasReturned : WorldInC → ℕ → ℕ → Type 0
HasReturned w t k = (x : ThreadInC) × (slice_get w.threads t ≡ Some x) × (k < length x.answers)

-- the thread's call of this number has not begun
abbrev pub HasNotBegun : WorldInC → ℕ → ℕ → Type 0
HasNotBegun w t k =
    (x : ThreadInC) × (slice_get w.threads t ≡ Some x)
    × ((length x.answers < k) ⊎ ((length x.answers ≡ k) × (x.active ≡ None)))

-- a call that returned before another began comes before it, in each later world, and before the begin that it notes
abbrev pub EndsInOrder : WorldInC → WorldInC → Type 0
EndsInOrder w later =
    (p q : ℕ) (e d : Entry) → slice_get later.history p ≡ Some e → slice_get later.history q ≡ Some d →
    HasReturned w e.thread e.step → HasNotBegun w d.thread d.step → (p < d.begun) × (d.begun ≤ q)

-- ---- the headline

-- a claim about a world that steps of threads in C lead to. The answers of the calls that have returned, and every cell
-- whose lock no thread has locked, are those of a serial run of the history's calls from the initial cells. A call that
-- returned before another began comes before it. Each access is under its lock, and no two threads have one lock
-- locked, so that no data race occurs; a thread without a call has no lock locked. No threads wait for each other in a
-- cycle, and if a call is under way some thread goes on. All numbers have 64 bits
pub record HeadlineInC (plan : Plan) (steps : List ℕ) (w : WorldInC) : Type 0 where
  pub heap : List Value
  pub answers : IsSerial plan w heap
  pub free_cells : FreeCellsAre plan w heap
  pub all_cells : length w.cells ≡ length plan.program.cells.items
  pub entries : HasEntries plan w
  pub order : (more : List ℕ) (later : WorldInC) → Reaches plan (steps ++ more) later → EndsInOrder w later
  pub covered : AccessesAreCovered plan w
  pub apart : LocksAreApart w
  pub no_races : NoRaces plan w
  pub given_back : LocksAreGivenBack w
  pub no_cycle : NobodyWaitsInACircle w
  pub goes_on : SomeoneGoesOn plan w
  pub numbers : NumbersFit plan w

-- every run in C has it, in each world on the way, and C defines all that it does
abbrev pub EveryRunInC : Type 0
EveryRunInC =
    (plan : Plan) (steps : List ℕ) → IsCompiled plan → HasFittingNumbers plan →
    (w : WorldInC) × Reaches plan steps w × HeadlineInC plan steps w

-- ---- calls from outside

-- numbers have 64 bits in the arguments of these calls
abbrev pub HaveFittingArguments : List (List Invocation) → Type 0
HaveFittingArguments calls =
    (t k : ℕ) (script : List Invocation) (call : Invocation) → slice_get calls t ≡ Some script →
    slice_get script k ≡ Some call → AreFitting call.arguments

-- numbers have 64 bits: those that the code of sections pushes, those of these calls' arguments, and those of the
-- initial cells
pub record HasFittingNumbersWith (plan : Plan) (calls : List (List Invocation)) : Type 0 where
  pub code : (k : ℕ) → AreShort (code_at plan k)
  pub arguments : HaveFittingArguments calls
  pub opening : AreFitting plan.layout.opening

-- threads that make these calls, instead of the plan's own, have the headline too
pub record OutsideRun (plan : Plan) (calls : List (List Invocation)) (steps : List ℕ) : Type 0 where
  pub threads : Vec Thread Global
  pub are : scripts (with_scripts plan threads) ≡ calls
  pub world : WorldInC
  pub reaches : Reaches (with_scripts plan threads) steps world
  pub headline : HeadlineInC (with_scripts plan threads) steps world

-- the same holds for any calls of the sections of a compiled plan
abbrev pub OutsideCallsRunInC : Type 0
OutsideCallsRunInC =
    (plan : Plan) (calls : List (List Invocation)) (steps : List ℕ) → IsCompiled plan → AreCallsOf plan.accepted calls →
    HasFittingNumbersWith plan calls → OutsideRun plan calls steps
