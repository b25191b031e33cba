-- Threads that run sections in C: their state, and one step of a thread. A step is the begin of a call, a group of
-- statements, a call of AL_LOCK or of AL_UNLOCK, or the return.
use Rattle.std.specs.Prelude.{ℕ, ◌+◌, ℤ, Bool, false, not, ◌||◌, if◌then◌else◌, List, [], ◌∷◌, ◌++◌, length}
use Rattle.std.specs.Prelude.{map, filter, slice_get, slice_set, Option, Some, None}
use Rattle.std.specs.Option.{option_map_or}
use Rattle.core_lang.specs.declared.value.Value.{Value}
use Rattle.core_lang.specs.declared.value.Outcome.{Outcome}
use Rattle.core_lang.specs.declared.tree.Section.{Section}
use Rattle.core_lang.specs.Serial.{Invocation, Ended}
use Rattle.core_lang.specs.Typing.{lookup}
use Rattle.locks.specs.declared.lock.Lock.{Lock}
use Rattle.locks.specs.Locks.{same_lock, among}
use Rattle.code.specs.declared.instr.Instr.{Instr}
use Rattle.code.specs.declared.instr.Instr.TheVariants.{Acquire}
use Rattle.code.specs.Memory.{load_from, store_to}
use Rattle.lowering.specs.Plans.{Plan}
use Rattle.worlds.specs.Worlds.{section_at, code_at, locals_at, scripts, call_at}
use Rattle.c_language.specs.Meaning.{Frame, After, Next, At_label, At_end, Anything}
use Rattle.c_language.specs.declared.statement.Temporary.{Temporary}
use Rattle.c_language.specs.Groups.{Group}
use Rattle.c_language.specs.Plans.{Spot, plan as spots, group_at}
use Rattle.c_language.specs.Runs.{begin_group}
use Rattle.c_threads.specs.Locking.{Acquired, acquired, no_notes, given_back}
use Rattle.c_threads.specs.LockClaims.{listed_before}

-- ---- the state

-- an entry of the history: the thread and the number of a call, what was called, the length of the history at its
-- begin, how it ended, and what it printed
pub record Entry : Type 0 where
  pub thread : ℕ
  pub step : ℕ
  pub call : Invocation
  pub begun : ℕ
  pub answer : Ended

-- the progress of a call: it calls AL_LOCK for these locks and then goes on with the group at its place, or its last
-- group is done, or its entry is made and it calls AL_UNLOCK for these locks and returns
pub data Progress : Type 0 where
  Taking : List Lock → Progress
  Over : Outcome → Progress
  Leaving : Outcome → List Lock → Progress

-- a call under way: what was called, the length of the history at its begin, the place of its next group, its
-- variables, the temporaries that were set, what was printed, the variables h, and its progress
pub record CallInC : Type 0 where
  pub call : Invocation
  pub begun : ℕ
  pub place : ℕ
  pub variables : List Value
  pub temporaries : Temporary → Option Value
  pub prints : List ℤ
  pub notes : List (Option Lock)
  pub progress : Progress

-- a thread: the answers of its calls that have returned, in order, the locks that it has locked, and its current call
pub record ThreadInC : Type 0 where
  pub answers : List Ended
  pub locked : List Lock
  pub active : Option CallInC

-- the cells of the shared memory, the history, and the threads
pub record WorldInC : Type 0 where
  pub cells : List Value
  pub history : List Entry
  pub threads : List ThreadInC

-- a step of a thread: it is idle, since it has no current call and no further one, or it waits for a lock that a thread
-- has locked, or it leads to a world, or it does what C leaves undefined
pub data Step : Type 0 where
  Idle : Step
  Waits : Lock → Step
  Goes : WorldInC → Step
  Breaks : Step

-- ---- changing a world

-- the world with a changed thread
abbrev pub with_thread : WorldInC → ℕ → ThreadInC → WorldInC
with_thread w t x = record w { threads = slice_set w.threads t x }

-- the world with the thread's changed call
abbrev pub with_call : WorldInC → ℕ → ThreadInC → CallInC → WorldInC
with_call w t x c = with_thread w t (record x { active = Some c })

-- the world with other locks locked by the thread
abbrev pub with_locked : WorldInC → ℕ → ThreadInC → List Lock → CallInC → WorldInC
with_locked w t x locked c = with_thread w t (record x { locked = locked; active = Some c })

-- the call with this progress
abbrev pub now_at : CallInC → Progress → CallInC
now_at c progress = record c { progress = progress }

-- ---- locks

-- some thread has the lock locked
abbrev pub is_locked : List ThreadInC → Lock → Bool
is_locked [] lock = false
is_locked (x ∷ xs) lock = among x.locked lock || is_locked xs lock

-- a call of AL_LOCK, after which these locks are left: the thread gets the lock, if no thread has it locked. If the
-- thread itself has it locked, C leaves the call undefined
abbrev pub locks : WorldInC → ℕ → ThreadInC → CallInC → Lock → List Lock → Step
locks w t x c lock rest =
    if among x.locked lock then Breaks
    else if is_locked w.threads lock then Waits lock
    else Goes (with_locked w t x (x.locked ++ lock ∷ []) (now_at c (Taking rest)))

-- the locks without this one
abbrev pub without_lock : List Lock → Lock → List Lock
without_lock locks lock = filter (λ other. not (same_lock other lock)) locks

-- the next of these calls of AL_UNLOCK, if there is one. If the thread has not locked the lock, C leaves the call
-- undefined
abbrev pub unlocks : WorldInC → ℕ → ThreadInC → CallInC → Outcome → List Lock → Step
unlocks w t x c outcome [] = Goes (with_call w t x (now_at c (Leaving outcome [])))
unlocks w t x c outcome (lock ∷ rest) =
    if among x.locked lock
    then Goes (with_locked w t x (without_lock x.locked lock) (now_at c (Leaving outcome rest)))
    else Breaks

-- ---- groups of statements

-- the operands known before each place of a section's code
abbrev pub spots_at : Plan → ℕ → ℕ → Spot
spots_at plan k = spots plan.program (code_at plan k)

-- the group of statements of an instruction at a place
abbrev pub group_in : Plan → ℕ → ℕ → Instr → Option Group
group_in plan k place i = group_at plan.program (spots_at plan k place) i place

-- the frame of a call's statements, over a memory
abbrev pub frame : {M : Type 0} → CallInC → M → Frame M
frame c memory = record { variables = c.variables; temporaries = c.temporaries; memory = memory; prints = c.prints }

-- the call at a place
abbrev pub come : CallInC → ℕ → Frame (List Value) → CallInC
come c place f = record c { place = place; variables = f.variables; temporaries = f.temporaries; prints = f.prints }

-- where a group leads to
abbrev pub leads : WorldInC → ℕ → ThreadInC → CallInC → Frame (List Value) → Step
leads w t x c f = Goes (with_call (record w { cells = f.memory }) t x c)

-- where a group leads its call
abbrev pub behind : WorldInC → ℕ → ThreadInC → CallInC → After (List Value) → Step
behind w t x c (Next f) = leads w t x (come c (c.place + 1) f) f
behind w t x c (At_label label f) = leads w t x (come c label f) f
behind w t x c (At_end outcome f) = leads w t x (now_at (come c c.place f) (Over outcome)) f
behind w t x c Anything = Breaks

-- the acquire of the lock paths before a point: the notes, and the calls of AL_LOCK to make
abbrev pub acquired_at : Plan → CallInC → ℕ → Option Acquired
acquired_at plan c point =
    lookup (section_at plan c.call.section) (λ section.
    acquired plan.program section c.variables (listed_before plan c.call.section point) c.notes)

-- an acquire, which gives the calls of AL_LOCK to make
abbrev pub acquires : WorldInC → ℕ → ThreadInC → CallInC → Option Acquired → Step
acquires w t x c (Some now) =
    Goes (with_call w t x (record c { place = c.place + 1; notes = now.notes; progress = Taking now.calls }))
acquires w t x c None = Breaks

-- the statements of an instruction; after the last one there are none
abbrev pub does : Plan → WorldInC → ℕ → ThreadInC → CallInC → Option Instr → Step
does plan w t x c None = Breaks
does plan w t x c (Some (Acquire point)) = acquires w t x c (acquired_at plan c point)
does plan w t x c (Some i) =
    let group = group_in plan c.call.section c.place i in
    behind w t x c (begin_group load_from store_to plan.program group (frame c w.cells))

-- ---- calls

-- a call that has just begun
abbrev pub begun_call : Plan → ℕ → Invocation → CallInC
begun_call plan begun call = record {
  call = call;
  begun = begun;
  place = 0;
  variables = locals_at plan call;
  temporaries = λ t. None;
  prints = [];
  notes = option_map_or (λ (section : Section). no_notes plan.program section) (section_at plan call.section) [];
  progress = Taking [];
}

-- the thread's next call begins, if it has one
abbrev pub begins : Plan → WorldInC → ℕ → ThreadInC → Option Invocation → Step
begins plan w t x None = Idle
begins plan w t x (Some call) = Goes (with_call w t x (begun_call plan (length w.history) call))

-- the answer of a call
abbrev pub answer : CallInC → Outcome → Ended
answer c outcome = record { outcome = outcome; prints = c.prints }

-- the entry of a call at its end: the thread, the number of its calls that have returned, the call, the length of the
-- history at its begin, and its answer
abbrev pub entry : ℕ → ThreadInC → CallInC → Outcome → Entry
entry t x c outcome =
    record { thread = t; step = length x.answers; call = c.call; begun = c.begun; answer = answer c outcome }

-- the calls of AL_UNLOCK that a call makes at its end
abbrev pub given_at : Plan → CallInC → List Lock
given_at plan c =
    option_map_or (λ (section : Section). given_back plan.program section c.notes) (section_at plan c.call.section) []

-- the end: the entry is appended to the history, and with it the first lock is released, if one is held
abbrev pub ends : Plan → WorldInC → ℕ → ThreadInC → CallInC → Outcome → Step
ends plan w t x c outcome =
    unlocks (record w { history = w.history ++ entry t x c outcome ∷ [] }) t x c outcome (given_at plan c)

-- a step at the end of a call: the next of its locks is released; if none is left, the call returns
abbrev pub leaves : WorldInC → ℕ → ThreadInC → CallInC → Outcome → List Lock → Step
leaves w t x c outcome [] =
    Goes (with_thread w t (record x { answers = x.answers ++ answer c outcome ∷ []; active = None }))
leaves w t x c outcome (lock ∷ rest) = unlocks w t x c outcome (lock ∷ rest)

-- the next step of a call, by its progress
abbrev pub goes_on : Plan → WorldInC → ℕ → ThreadInC → CallInC → Progress → Step
goes_on plan w t x c (Taking (lock ∷ rest)) = locks w t x c lock rest
goes_on plan w t x c (Taking []) = does plan w t x c (slice_get (code_at plan c.call.section) c.place)
goes_on plan w t x c (Over outcome) = ends plan w t x c outcome
goes_on plan w t x c (Leaving outcome locks) = leaves w t x c outcome locks

-- the next step of a thread with this current call, or with none
abbrev pub steps_with : Plan → WorldInC → ℕ → ThreadInC → Option CallInC → Step
steps_with plan w t x None = begins plan w t x (call_at plan t (length x.answers))
steps_with plan w t x (Some c) = goes_on plan w t x c c.progress

-- the next step of a thread; an unknown thread is idle
abbrev pub thread_steps : Plan → WorldInC → ℕ → Option ThreadInC → Step
thread_steps plan w t None = Idle
thread_steps plan w t (Some x) = steps_with plan w t x x.active

-- the next step of a thread
abbrev pub step : Plan → WorldInC → ℕ → Step
step plan w t = thread_steps plan w t (slice_get w.threads t)

-- ---- runs

-- a world, or the result of undefined behavior, after which anything may happen
pub data State : Type 0 where
  At : WorldInC → State
  Broken : State

-- the state after a step; a wait changes nothing
abbrev pub stepped : WorldInC → Step → State
stepped w Idle = At w
stepped w (Waits lock) = At w
stepped w (Goes next) = At next
stepped w Breaks = Broken

-- the state after the next step of a thread; undefined behavior stays so
abbrev pub happens : Plan → State → ℕ → State
happens plan (At w) t = stepped w (step plan w t)
happens plan Broken t = Broken

-- the state after steps of these threads
abbrev pub state_after : Plan → State → List ℕ → State
state_after plan s [] = s
state_after plan s (t ∷ ts) = state_after plan (happens plan s t) ts

-- a thread that has called nothing yet
abbrev pub at_first : List Invocation → ThreadInC
at_first script = record { answers = []; locked = []; active = None }

-- the world before any step: the cells with their initial values, no history, and no current call. The threads make the
-- calls of the plan's scripts
abbrev pub opening_in_c : Plan → WorldInC
opening_in_c plan = record { cells = plan.layout.opening; history = []; threads = map at_first (scripts plan) }

-- the state after steps of these threads from the beginning
abbrev pub final_in_c : Plan → List ℕ → State
final_in_c plan steps = state_after plan (At (opening_in_c plan)) steps
