-- The claims about every run.
use Rattle.std.specs.Prelude.{◌≡◌, ◌↔◌, ◌<◌, ◌≤◌, ℕ, ◌+◌, ◌==◌, if◌then◌else◌, List, [], ◌∷◌, length, map, take}
use Rattle.std.specs.Prelude.{slice_get, Some, None, ⊤}
use Rattle.std.specs.List.{Contains}
use Rattle.core_lang.specs.declared.value.Value.{Value}
use Rattle.core_lang.specs.Serial.{Invocation, Scheduled, SerialFromOpening}
use Rattle.locks.specs.declared.lock.Lock.{Lock}
use Rattle.locks.specs.Locks.{lock_of_cell}
use Rattle.code.specs.Memory.{value_at, IsPartOf}
use Rattle.layout.specs.Layouts.{AreDistinct}
use Rattle.history.specs.Commits.{Commit, call_of, answer_of, script_call, committed, IsLegal, AreTrue}
use Rattle.lowering.specs.Plans.{Plan, IsCompiled}
use Rattle.worlds.specs.declared.event.Event.TheVariants.{Began, Ended}
use Rattle.worlds.specs.Worlds.{World, ThreadState, Activation, HasOpen, scripts, call_at, final, trace}
use Rattle.worlds.specs.Waiting.{NobodyWaitsInACircle, SomeoneGoesOn, PendingRises, WaitsAreForHolders, AllHaveNext}

-- ---- words

-- a section holds a cell
abbrev pub HoldsCell : Activation → ℕ → Type 0
HoldsCell a cell = (v : Value) × (value_at a.machine.memory.cells cell ≡ Some v)

-- some open section holds the lock
pub record IsHeld (w : World) (lock : Lock) : Type 0 where
  pub by : ℕ
  pub section : Activation
  pub is_open : HasOpen w by section
  pub holds : Contains section.held lock

-- the calls of a thread in a history
abbrev pub calls_by : ℕ → List Commit → List Scheduled
calls_by t [] = []
calls_by t (c ∷ cs) = if c.thread == t then script_call c ∷ calls_by t cs else calls_by t cs

-- the calls of a thread's script, numbered from this one on
abbrev pub numbered : ℕ → ℕ → List Invocation → List Scheduled
numbered t step [] = []
numbered t step (call ∷ calls) = record { thread = t; step = step; call = call } ∷ numbered t (step + 1) calls

-- the thread's section that begins with one step of a run ends with a later one, at a position of the history
pub record IsSectionRun (plan : Plan) (steps : List ℕ) (t begin end position : ℕ) : Type 0 where
  pub later : begin < end
  pub begins_it : slice_get steps begin ≡ Some t
  pub ends_it : slice_get steps end ≡ Some t
  pub began : slice_get (trace plan steps) begin ≡ Some Began
  pub ended : slice_get (trace plan steps) end ≡ Some (Ended position)
  pub only : (k p : ℕ) → begin < k → k < end → slice_get steps k ≡ Some t →
      slice_get (trace plan steps) k ≡ Some (Ended p) → ⊥

-- ---- the rules of locking

-- no two sections hold one lock, and none holds one twice. A section has exactly the cells of the locks that it holds.
-- What it read is what the history leaves, and its cells have that with its writes made. Each lock that a section is to
-- be granted next comes after all that it holds. The history is legal, and its entries are true
pub record KeepsTheRules (plan : Plan) (w : World) : Type 0 where
  pub one_holder : (t u : ℕ) (a b : Activation) (lock : Lock) → HasOpen w t a → HasOpen w u b →
      Contains a.held lock → Contains b.held lock → t ≡ u
  pub once : (t : ℕ) (a : Activation) → HasOpen w t a → AreDistinct a.held
  pub own_cells : (t : ℕ) (a : Activation) (cell : ℕ) (lock : Lock) → HasOpen w t a →
      lock_of_cell plan.program cell ≡ Some lock → HoldsCell a cell ↔ Contains a.held lock
  pub part : (t : ℕ) (a : Activation) → HasOpen w t a →
      IsPartOf (committed plan.layout.opening w.history) a.machine.memory
  pub rises : PendingRises plan.ranks w
  pub legal : IsLegal plan.layout.opening w.history
  pub true_entries : AreTrue plan.program w.history

-- this holds in each world that a compiled program reaches
abbrev pub EveryWorldKeepsTheRules : Type 0
EveryWorldKeepsTheRules = (plan : Plan) (steps : List ℕ) → IsCompiled plan → KeepsTheRules plan (final plan steps)

-- ---- the headline

-- the history's calls, run serially from the initial cells, end and print as the history says, and leave this heap: as
-- calls of the accepted program, whose helpers are not expanded
abbrev pub IsSerial : Plan → World → List Value → Type 0
IsSerial plan w heap = SerialFromOpening plan.accepted (map call_of w.history) (map answer_of w.history) heap

-- each entry is for a call of its thread's script
abbrev pub AreOfScripts : Plan → List Commit → Type 0
AreOfScripts plan [] = ⊤
AreOfScripts plan (c ∷ cs) = ((k : ℕ) × (call_at plan c.thread k ≡ Some (call_of c))) × AreOfScripts plan cs

-- such calls, run serially on the compiled program, run in the same way on the accepted one
abbrev pub OfScriptsRunAlike : Type 0
OfScriptsRunAlike =
    (plan : Plan) (cs : List Commit) (heap : List Value) → IsCompiled plan → AreOfScripts plan cs →
    SerialFromOpening plan.program (map call_of cs) (map answer_of cs) heap →
    SerialFromOpening plan.accepted (map call_of cs) (map answer_of cs) heap

-- a cell that no section holds has its value in the heap
abbrev pub FreeCellsAre : World → List Value → Type 0
FreeCellsAre w heap = (cell : ℕ) (v : Value) → slice_get w.cells cell ≡ Some (Some v) → slice_get heap cell ≡ Some v

-- a cell has no value exactly if a section holds its lock
abbrev pub HeldCellsAre : Plan → World → Type 0
HeldCellsAre plan w =
    (cell : ℕ) (lock : Lock) → lock_of_cell plan.program cell ≡ Some lock →
    (slice_get w.cells cell ≡ Some None) ↔ IsHeld w lock

-- a section that ended before another began comes before it
abbrev pub EndsInOrder : Plan → List ℕ → Type 0
EndsInOrder plan steps =
    (u b c e p q : ℕ) → slice_get (trace plan steps) b ≡ Some (Ended p) → IsSectionRun plan steps u c e q → b < c → p < q

-- each end belongs to a section's run, and so does each entry of the history
pub record EndsAreRuns (plan : Plan) (steps : List ℕ) : Type 0 where
  pub has_begun : (t end position : ℕ) → slice_get steps end ≡ Some t →
      slice_get (trace plan steps) end ≡ Some (Ended position) → (begin : ℕ) × IsSectionRun plan steps t begin end position
  pub has_ended : (position : ℕ) (c : Commit) → slice_get (final plan steps).history position ≡ Some c →
      (begin : ℕ) × (end : ℕ) × IsSectionRun plan steps c.thread begin end position

-- the history has for each thread the first calls of its script, in order, each once, and no others; and an open
-- section runs the next call of its thread's script
pub record FollowsScripts (plan : Plan) (w : World) : Type 0 where
  pub calls : (t : ℕ) (thread : ThreadState) (script : List Invocation) → slice_get w.threads t ≡ Some thread →
      slice_get (scripts plan) t ≡ Some script → calls_by t w.history ≡ take thread.step (numbered t 0 script)
  pub next_call : (t : ℕ) (thread : ThreadState) (a : Activation) → slice_get w.threads t ≡ Some thread →
      thread.active ≡ Some a → call_at plan t thread.step ≡ Some a.call
  pub all_threads : length w.threads ≡ length (scripts plan)
  pub nobody_else : (position : ℕ) (c : Commit) → slice_get w.history position ≡ Some c →
      c.thread < length (scripts plan)

-- the history has an entry of the thread at this position, with the length of the history at the section's begin
pub record HasEntry (plan : Plan) (steps : List ℕ) (t begin position : ℕ) : Type 0 where
  pub entry : Commit
  pub there : slice_get (final plan steps).history position ≡ Some entry
  pub of_thread : entry.thread ≡ t
  pub begun : entry.begun ≡ length (final plan (take begin steps)).history
  pub earlier : entry.begun ≤ position

-- each section that ended has its entry
abbrev pub HaveEntries : Plan → List ℕ → Type 0
HaveEntries plan steps = (t b e p : ℕ) → IsSectionRun plan steps t b e p → HasEntry plan steps t b p

-- a claim about every list of steps. The results and prints of the finished sections, and every cell that no section
-- holds, are those of a serial run of the history's sections from the initial cells. A section that ended before
-- another began comes before it. The entries are those of the sections that began and ended, each where it ended, with
-- a note of its begin. Those of each thread are the first calls of its script, in order, and its open section is the
-- next one. In each world on the way, the cells that are away are those of the locks held, sections keep the rules of
-- locking, no threads wait for each other in a cycle, and a thread that waits does so for another's open section. If a
-- section is open, some open section goes on. The next instruction of each open section has its case
pub record Headline (plan : Plan) (steps : List ℕ) : Type 0 where
  pub heap : List Value
  pub results_and_prints : IsSerial plan (final plan steps) heap
  pub free_cells : FreeCellsAre (final plan steps) heap
  pub all_cells : length (final plan steps).cells ≡ length plan.program.cells.items
  pub order : EndsInOrder plan steps
  pub runs : EndsAreRuns plan steps
  pub scripts : FollowsScripts plan (final plan steps)
  pub entries : HaveEntries plan steps
  pub held_cells : (n : ℕ) → HeldCellsAre plan (final plan (take n steps))
  pub rules : (n : ℕ) → KeepsTheRules plan (final plan (take n steps))
  pub no_cycle : (n : ℕ) → NobodyWaitsInACircle (final plan (take n steps))
  pub waits : (n : ℕ) → WaitsAreForHolders plan (final plan (take n steps))
  pub goes_on : (n : ℕ) → SomeoneGoesOn plan (final plan (take n steps))
  pub next : (n : ℕ) → AllHaveNext plan (final plan (take n steps))

-- every run of a compiled program has it
abbrev pub EveryRunHasIt : Type 0
EveryRunHasIt = (plan : Plan) (steps : List ℕ) → IsCompiled plan → Headline plan steps
