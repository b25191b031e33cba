-- Worlds of threads, and one step of a thread.
use Rattle.std.specs.Prelude.{◌≡◌, ℕ, ◌+◌, Bool, true, false, if◌then◌else◌, List, [], ◌∷◌, ◌++◌, length, map}
use Rattle.std.specs.Prelude.{slice_get, slice_set, unwrap_or, Option, Some, None}
use Rattle.std.specs.Option.{option_map_or}
use Rattle.core_lang.specs.declared.value.Value.{Value}
use Rattle.core_lang.specs.declared.value.Outcome.{Outcome}
use Rattle.core_lang.specs.declared.tree.Section.{Section}
use Rattle.core_lang.specs.declared.typed.Thread.{Thread}
use Rattle.core_lang.specs.Whole.{opening}
use Rattle.core_lang.specs.Serial.{Invocation, invocation}
use Rattle.locks.specs.declared.lock.Lock.{Lock}
use Rattle.layout.specs.LockCells.{cells_of}
use Rattle.code.specs.declared.instr.Instr.{Instr}
use Rattle.code.specs.Machine.{Machine, Effect, Moves, Asks, Finishes, Undefined, act, passed}
use Rattle.code.specs.Memory.{HeldCells, none_held, load_held, store_held}
use Rattle.code.specs.Alone.{starting}
use Rattle.code.specs.Lowering.{section_code, lists_at}
use Rattle.history.specs.Commits.{Commit}
use Rattle.lowering.specs.Plans.{Plan}
use Rattle.worlds.specs.declared.event.Event.{Event}
use Rattle.worlds.specs.declared.event.Event.TheVariants as event
use Rattle.worlds.specs.Asking.{to_ask}
use Rattle.locks.specs.Locks.{among}

-- ---- the state

-- an open section: its call, the length of the history at its begin, its machine over the cells that it holds, the
-- locks that it holds, the oldest first, the locks that it is still to be granted, whether it has asked for the first
-- of them, and its outcome
pub record Activation : Type 0 where
  pub call : Invocation
  pub begun : ℕ
  pub machine : Machine HeldCells
  pub held : List Lock
  pub pending : List Lock
  pub asked : Bool
  pub outcome : Option Outcome

-- a thread: the number of its next call or of its open section's call
pub record ThreadState : Type 0 where
  pub step : ℕ
  pub active : Option Activation

-- the value of each cell that no section holds, the history, and the threads
pub record World : Type 0 where
  pub cells : List (Option Value)
  pub history : List Commit
  pub threads : List ThreadState

-- the open section of a thread
abbrev pub HasOpen : World → ℕ → Activation → Type 0
HasOpen w t a = (thread : ThreadState) × (slice_get w.threads t ≡ Some thread) × (thread.active ≡ Some a)

-- ---- reading a plan

-- the section of this number
abbrev pub section_at : Plan → ℕ → Option Section
section_at plan k = slice_get plan.program.sections.items k

-- the code of the section of this number
abbrev pub code_at : Plan → ℕ → List Instr
code_at plan k =
    option_map_or (λ (section : Section). section_code (lists_at plan.lists k) section) (section_at plan k) []

-- the initial locals of a call
abbrev pub locals_at : Plan → Invocation → List Value
locals_at plan call =
    option_map_or (λ (section : Section). (opening section call.arguments []).locals) (section_at plan call.section) []

-- the locks that a section asks for before a point
abbrev pub locks_before : Plan → ℕ → ℕ → List Lock → List Value → List Lock
locks_before plan k point held locals =
    let list = unwrap_or (slice_get (lists_at plan.lists k) point) [] in
    option_map_or (λ (section : Section). to_ask plan.program section plan.ranks held locals list) (section_at plan k) []

-- the calls of a thread
abbrev pub script_of : Thread → List Invocation
script_of thread = map invocation thread.calls.items

-- the calls of each thread
abbrev pub scripts : Plan → List (List Invocation)
scripts plan = map script_of plan.program.threads.items

-- the call with this number in the thread's script
abbrev pub call_at : Plan → ℕ → ℕ → Option Invocation
call_at plan t step =
    option_map_or (λ (calls : List Invocation). slice_get calls step) (slice_get (scripts plan) t) None

-- ---- moving cells

-- a cell with its value, if it has one, before others
abbrev pub with_taken : ℕ → Option (Option Value) → List (ℕ × Value) → List (ℕ × Value)
with_taken cell (Some (Some v)) others = (cell, v) ∷ others
with_taken cell (Some None) others = others
with_taken cell None others = others

-- these cells with their values, if they have them
abbrev pub taken : List (Option Value) → List ℕ → List (ℕ × Value)
taken cells [] = []
taken cells (c ∷ cs) = with_taken c (slice_get cells c) (taken cells cs)

-- the cells without these
abbrev pub without : List (Option Value) → List ℕ → List (Option Value)
without cells [] = cells
without cells (c ∷ cs) = slice_set (without cells cs) c None

-- the cells with these put back, with their values
abbrev pub with_back : List (Option Value) → List (ℕ × Value) → List (Option Value)
with_back cells [] = cells
with_back cells (c ∷ cs) = slice_set (with_back cells cs) c.0 (Some c.1)

-- ---- changing a world

-- the world with a changed thread
abbrev pub with_thread : World → ℕ → ThreadState → World
with_thread w t thread = record w { threads = slice_set w.threads t thread }

-- the world with the thread's changed section
abbrev pub with_active : World → ℕ → ThreadState → Activation → World
with_active w t thread a = with_thread w t (record { step = thread.step; active = Some a })

-- a call that has just begun
abbrev pub activation : Plan → ℕ → Invocation → Activation
activation plan begun call = record {
  call = call;
  begun = begun;
  machine = starting (locals_at plan call) none_held;
  held = [];
  pending = [];
  asked = false;
  outcome = None;
}

-- the thread has an open section that holds the lock
abbrev pub holds : Lock → ThreadState → Bool
holds lock thread = option_map_or (λ (a : Activation). among a.held lock) thread.active false

-- the thread that holds a lock; the first of the threads has this number
abbrev pub holder_from : ℕ → List ThreadState → Lock → Option ℕ
holder_from t [] lock = None
holder_from t (thread ∷ threads) lock = if holds lock thread then Some t else holder_from (t + 1) threads lock

-- the thread that holds a lock in the world
abbrev pub holder : World → Lock → Option ℕ
holder w lock = holder_from 0 w.threads lock

-- ---- the six kinds of step

-- without an open section, the next call begins, if there is one
abbrev pub begins : Plan → World → ℕ → ThreadState → Option Invocation → Event × World
begins plan w t thread None = (event.Idle, w)
begins plan w t thread (Some call) = (event.Began, with_active w t thread (activation plan (length w.history) call))

-- the section with a lock and its cells granted
abbrev pub granted : Activation → Lock → List Lock → List (ℕ × Value) → Activation
granted a lock rest values =
    let m = a.machine in
    record a {
      machine = record m { memory = record m.memory { cells = m.memory.cells ++ values } };
      held = a.held ++ lock ∷ [];
      pending = rest;
      asked = false;
    }

-- a step of a section with a pending lock: if no thread holds the lock, it is granted, and its cells move to the
-- section; otherwise it is only asked for
abbrev pub asks : Plan → World → ℕ → ThreadState → Activation → Lock → List Lock → Option ℕ → Event × World
asks plan w t thread a lock rest None =
    let cells = cells_of plan.layout.cell_locks lock in
    let next = with_active w t thread (granted a lock rest (taken w.cells cells)) in
    (event.Got lock, record next { cells = without w.cells cells })
asks plan w t thread a lock rest (Some h) = (event.Waits lock h, with_active w t thread (record a { asked = true }))

-- the entry in the history
abbrev pub commit : ℕ → ℕ → Activation → Outcome → Commit
commit t step a outcome = record {
  thread = t;
  step = step;
  section = a.call.section;
  arguments = a.call.arguments;
  begun = a.begun;
  reads = a.machine.memory.reads;
  writes = a.machine.memory.writes;
  outcome = outcome;
  prints = a.machine.prints;
}

-- an outcome: all locks and cells are given back, and the section's entry is appended to the history
abbrev pub ends : World → ℕ → ThreadState → Activation → Outcome → Event × World
ends w t thread a outcome = (
  event.Ended (length w.history),
  record {
    cells = with_back w.cells a.machine.memory.cells;
    history = w.history ++ commit t thread.step a outcome ∷ [];
    threads = slice_set w.threads t (record { step = thread.step + 1; active = None });
  },
)

-- the effect of the section's next instruction
abbrev pub next_effect : Plan → Activation → Effect HeldCells
next_effect plan a =
    act load_held store_held plan.program.shape (slice_get (code_at plan a.call.section) a.machine.place) a.machine

-- the section after that; at an instruction that has no case it stays
abbrev pub instructed : Plan → Activation → Effect HeldCells → Activation
instructed plan a (Moves m) = record a { machine = m }
instructed plan a (Asks point) =
    let locks = locks_before plan a.call.section point a.held a.machine.locals in
    record a { machine = passed a.machine; pending = locks; asked = false }
instructed plan a (Finishes outcome) = record a { outcome = Some outcome }
instructed plan a Undefined = a

-- an open section: a pending lock comes first, then an outcome, then an instruction
abbrev pub goes_on : Plan → World → ℕ → ThreadState → Activation → List Lock → Option Outcome → Event × World
goes_on plan w t thread a (lock ∷ rest) outcome = asks plan w t thread a lock rest (holder w lock)
goes_on plan w t thread a [] (Some outcome) = ends w t thread a outcome
goes_on plan w t thread a [] None = (event.Moved, with_active w t thread (instructed plan a (next_effect plan a)))

-- a step of a thread with this open section, or with none
abbrev pub steps_with : Plan → World → ℕ → ThreadState → Option Activation → Event × World
steps_with plan w t thread None = begins plan w t thread (call_at plan t thread.step)
steps_with plan w t thread (Some a) = goes_on plan w t thread a a.pending a.outcome

-- a step of a thread; a step of an unknown thread is `Idle`
abbrev pub thread_steps : Plan → World → ℕ → Option ThreadState → Event × World
thread_steps plan w t None = (event.Idle, w)
thread_steps plan w t (Some thread) = steps_with plan w t thread thread.active

-- a step of a thread: its event, and the world after it
abbrev pub happens : Plan → World → ℕ → Event × World
happens plan w t = thread_steps plan w t (slice_get w.threads t)

-- ---- runs

-- a thread that has run nothing yet
abbrev pub at_first : List Invocation → ThreadState
at_first script = record { step = 0; active = None }

-- the world before any step: all cells with their initial values, no history, and no section open
abbrev pub opening_world : Plan → World
opening_world plan = record {
  cells = map (λ (v : Value). Some v) plan.layout.opening;
  history = [];
  threads = map at_first (scripts plan);
}

-- the world after steps of these threads
abbrev pub world_after : Plan → World → List ℕ → World
world_after plan w [] = w
world_after plan w (t ∷ ts) = world_after plan (happens plan w t).1 ts

-- the events of these steps
abbrev pub events : Plan → World → List ℕ → List Event
events plan w [] = []
events plan w (t ∷ ts) = (happens plan w t).0 ∷ events plan (happens plan w t).1 ts

-- the world after these steps from the opening world
abbrev pub final : Plan → List ℕ → World
final plan ts = world_after plan (opening_world plan) ts

-- the events of these steps from the opening world
abbrev pub trace : Plan → List ℕ → List Event
trace plan ts = events plan (opening_world plan) ts
