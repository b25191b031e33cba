-- The instructions ahead of an open section, and the locks that it holds at each point: those that a run of the section
-- holds there. Nobody has to believe this file.
use Rattle.std.specs.Prelude.{◌≡◌, ℕ, ◌+◌, List, [], ◌++◌, length, slice_get, Option, Some, ⊤}
use Rattle.std.specs.List.{Contains}
use Rattle.core_lang.specs.declared.value.Value.{Value}
use Rattle.core_lang.specs.declared.value.ValueType.{ValueType}
use Rattle.core_lang.specs.declared.value.Outcome.{Outcome}
use Rattle.core_lang.specs.declared.tree.Section.{Section}
use Rattle.core_lang.specs.declared.typed.Typed.{Typed}
use Rattle.core_lang.specs.Typing.{HasType, HaveTypes, local_types, cell_types, IsHeap, Fit}
use Rattle.flow.specs.Points.{IsScopeAt}
use Rattle.locks.specs.declared.lock.Lock.{Lock}
use Rattle.locks.specs.LockPaths.{LetsAgree}
use Rattle.inserter.specs.Working.Runs.{IsListed, Run}
use Rattle.code.specs.Machine.{Machine}
use Rattle.code.specs.Memory.{HeldCells, load_held, store_held}
use Rattle.code.specs.Working.Seen.{held_value}
use Rattle.code.specs.Working.Spots.{Spot, InSection}
use Rattle.code.specs.Lowering.{acquire_code, section_code, lists_at}
use Rattle.code.specs.Needs.{operand_need}
use Rattle.code.specs.Working.Ahead.{Safe}
use Rattle.history.specs.Commits.{committed}
use Rattle.lowering.specs.Plans.{Plan, IsCompiled}
use Rattle.worlds.specs.Worlds.{World, Activation, HasOpen, section_at, happens, opening_world}
use Rattle.worlds.specs.Working.States.{IsSound}
use Rattle.worlds.specs.Waiting.{PendingRises, AllHaveNext}
use Rattle.worlds.specs.Working.InTurn.{RiseBehind}

-- each cell that is seen has a value of its type
abbrev pub SeesTyped : Typed → (ℕ → Option Value) → Type 0
SeesTyped program seen =
    (cell : ℕ) (v : Value) → seen cell ≡ Some v →
    (t : ValueType) × (slice_get (cell_types program) cell ≡ Some t) × HasType program.shape t v

-- any outcome is allowed
abbrev pub Any : Outcome → Type 0
Any outcome = ⊤

-- for a section of a plan, and the lists of lock paths before its points
module _ (plan : Plan) (section : Section) (lists : List (List ℕ)) where
  -- a machine has come to the section's point of this number: its locals and cells have values of their types, each
  -- `let` in scope the value that its initialiser had, and a run of the section comes there with these locks
  pub record HasCome (p : ℕ) (held : List Lock) (m : Machine HeldCells) : Type 0 where
    pub scope : List ℕ
    pub scoped : IsScopeAt section p scope
    pub locals : HaveTypes plan.program.shape (local_types section.locals.items) m.locals
    pub lets : LetsAgree section scope plan.program.shape m.locals
    pub cells : SeesTyped plan.program (held_value m.memory)
    pub run : Run plan.program section plan.ranks lists p m.locals held

  -- the machine is at the begin of a point
  pub record IsAtPoint (held : List Lock) (m : Machine HeldCells) : Type 0 where
    pub point : Spot
    pub inside : InSection lists section point
    pub place : m.place ≡ point.place
    pub stack : m.stack ≡ []
    pub come : HasCome point.number held m

  -- the machine is after the acquire of a point. The locks that it is still to be granted rise after those that it
  -- holds. With all of them, a run of the section comes to this point, and holds each lock that is listed there
  pub record IsAsking (held pending : List Lock) (m : Machine HeldCells) : Type 0 where
    pub point : Spot
    pub inside : InSection lists section point
    pub place : m.place ≡ point.place + length (acquire_code lists point.number)
    pub stack : m.stack ≡ []
    pub rise : RiseBehind plan.ranks held pending
    pub come : HasCome point.number (held ++ pending) m
    pub all : (lock : Lock) → IsListed plan.program section plan.ranks lists point.number m.locals lock →
        Contains (held ++ pending) lock

  -- the machine is safe until the begin of a point
  abbrev pub IsRunning : List Lock → Machine HeldCells → Type 0
  IsRunning held m =
      Safe load_held store_held plan.program.shape (section_code lists section) Any (IsAtPoint held)
      (operand_need section) m

  -- an open section runs, or it asks for the locks of a point, or it has an outcome
  pub data CanGoOn (a : Activation) : Type 0 where
    running : a.pending ≡ [] → IsRunning a.held a.machine → CanGoOn a
    asking : IsAsking a.held a.pending a.machine → CanGoOn a
    over : {outcome : Outcome} → a.pending ≡ [] → a.outcome ≡ Some outcome → CanGoOn a

-- an open section was called with arguments that fit it, and can go on
pub record IsReady (plan : Plan) (a : Activation) : Type 0 where
  pub section : Section
  pub is : section_at plan a.call.section ≡ Some section
  pub fit : Fit plan.program section a.call.arguments
  pub goes_on : CanGoOn plan section (lists_at plan.lists a.call.section) a

-- a world is ready: the heap after the history is one of the program, and each open section is ready
pub record IsReadyWorld (plan : Plan) (w : World) : Type 0 where
  pub heap : IsHeap plan.program (committed plan.layout.opening w.history)
  pub sections : (t : ℕ) (a : Activation) → HasOpen w t a → IsReady plan a

-- before any step a world is ready, and a step of a thread keeps a sound world ready. In a ready world pending locks
-- rise. If it is sound too, next instructions have their case
pub record WorldsStayReady : Type 0 where
  pub opening : (plan : Plan) → IsCompiled plan → IsReadyWorld plan (opening_world plan)
  pub step : (plan : Plan) (w : World) (t : ℕ) → IsCompiled plan → IsSound plan w → IsReadyWorld plan w →
      IsReadyWorld plan (happens plan w t).1
  pub rises : (plan : Plan) (w : World) → IsReadyWorld plan w → PendingRises plan.ranks w
  pub next : (plan : Plan) (w : World) → IsCompiled plan → IsSound plan w → IsReadyWorld plan w → AllHaveNext plan w
