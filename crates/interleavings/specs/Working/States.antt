-- The states of the threads, and how they agree with the manager of locks and form a world. Nobody has to believe this
-- file.
use Rattle.std.specs.Prelude.{◌≡◌, ◌≢◌, ◌<◌, ℕ, List, [], length, map, slice_get, Option, Some, None}
use Rattle.std.specs.List.{range_with_len}
use Rattle.core_lang.specs.declared.value.Value.{Value}
use Rattle.core_lang.specs.Typing.{lookup}
use Rattle.layout.specs.Layouts.{AreDistinct}
use Rattle.lock_manager.specs.Manager.{SessionOf, Managed, session_in}
use Rattle.lock_manager.specs.Working.Managers.{cell_of}
use Rattle.lowering.specs.Plans.{Plan, IsCompiled}
use Rattle.runner.specs.Working.Opens.{OpenOf, session_of_open}
use Rattle.runner.specs.declared.states.Next.{Next}
use Rattle.runner.specs.declared.states.Next.TheVariants as next
use Rattle.worlds.specs.Worlds.{World, ThreadState, call_at}
use Rattle.worlds.specs.Working.States.{IsSound}
use Rattle.worlds.specs.Working.Ahead.{IsReadyWorld}
use Rattle.interleavings.specs.declared.state.TypedState.{TypedState}
use Rattle.interleavings.specs.declared.state.TypedState.TheVariants as state

-- ---- a state

-- the state in which a section goes on
abbrev pub state_of : Next → TypedState
state_of (next.Running o) = state.Running o
state_of (next.Asking o) = state.Asking o
state_of (next.Ended o) = state.Ended o

abbrev pub open_thread : OpenOf → ThreadState
open_thread o = record { step = o.step; active = Some o.activation }

abbrev pub thread_of : TypedState → ThreadState
thread_of state.Away = record { step = 0; active = None }
thread_of (state.Ready r) = record { step = r.step; active = None }
thread_of (state.Running o) = open_thread o
thread_of (state.Asking o) = open_thread o
thread_of (state.Ended o) = open_thread o

-- the section as the manager knows it
abbrev pub session_of_state : TypedState → Option SessionOf
session_of_state state.Away = None
session_of_state (state.Ready r) = None
session_of_state (state.Running o) = Some (session_of_open o)
session_of_state (state.Asking o) = Some (session_of_open o)
session_of_state (state.Ended o) = Some (session_of_open o)

abbrev pub session_at : List TypedState → ℕ → Option SessionOf
session_at states t = lookup (slice_get states t) session_of_state

-- a section belongs to this plan, this thread and a call of the thread's script, and holds each of its locks once
pub record IsOf (plan : Plan) (t : ℕ) (o : OpenOf) : Type 0 where
  pub plan_is : o.plan ≡ plan
  pub thread : o.thread ≡ t
  pub call : call_at plan t o.step ≡ Some o.activation.call
  pub once : AreDistinct o.activation.held

-- a state belongs to this plan and this thread, and fits the pending locks and the outcome of its section
abbrev pub IsAt : Plan → ℕ → TypedState → Type 0
IsAt plan t state.Away = ⊥
IsAt plan t (state.Ready r) = r.thread ≡ t
IsAt plan t (state.Running o) = IsOf plan t o × (o.activation.pending ≡ []) × (o.activation.outcome ≡ None)
IsAt plan t (state.Asking o) = IsOf plan t o × (o.activation.pending ≢ []) × (o.activation.outcome ≡ None)
IsAt plan t (state.Ended o) = IsOf plan t o × (o.activation.pending ≡ []) × (o.activation.outcome ≢ None)

-- ---- all of them

-- the value of each cell, unless a section holds it
abbrev pub cells_seen : Managed → List (Option Value)
cells_seen m = map (cell_of m) (range_with_len 0 (length m.layout.cell_locks))

-- the world that the manager and the states form
abbrev pub world_of : Managed → List TypedState → World
world_of m states = record { cells = cells_seen m; history = m.history; threads = map thread_of states }

-- the manager belongs to the plan, each thread of the program has a state, and the manager knows for each thread
-- exactly the section of its state. The world that they form is sound and ready
pub record IsTied (plan : Plan) (m : Managed) (states : List TypedState) : Type 0 where
  pub compiled : IsCompiled plan
  pub layout : m.layout ≡ plan.layout
  pub ranks : m.ranks ≡ plan.ranks
  pub many : length states ≡ length plan.program.threads.items
  pub sessions : (t : ℕ) → session_in m.slots t ≡ session_at states t
  pub at : (t : ℕ) (x : TypedState) → slice_get states t ≡ Some x → IsAt plan t x
  pub sound : IsSound plan (world_of m states)
  pub ready : IsReadyWorld plan (world_of m states)

-- each thread before its first call
pub record AreReady (count : ℕ) (states : List TypedState) : Type 0 where
  pub many : length states ≡ count
  pub each : (t : ℕ) → t < count → slice_get states t ≡ Some (state.Ready (record { thread = t; step = 0 }))
