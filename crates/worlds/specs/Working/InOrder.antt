-- The properties that an open section keeps by itself, along its own steps, as the law of `src/laws.rt` claims them.
-- Nobody has to believe this file.
use Rattle.std.specs.Prelude.{◌≡◌, ℕ, ◌≤◌, min, true, List, [], ◌∷◌, ◌++◌, length, map, slice_get, Some, None}
use Rattle.std.specs.List.{Contains, sum_by}
use Rattle.core_lang.specs.declared.value.Value.{Value}
use Rattle.core_lang.specs.declared.value.Outcome.{Outcome}
use Rattle.core_lang.specs.declared.tree.Section.{Section}
use Rattle.core_lang.specs.declared.typed.Typed.{Typed}
use Rattle.core_lang.specs.Serial.{Invocation}
use Rattle.core_lang.specs.Typing.{IsHeap, HasCells}
use Rattle.core_lang.specs.WellFormed.{CanCall}
use Rattle.locks.specs.declared.lock.Lock.{Lock}
use Rattle.locks.specs.Order.{Precedes}
use Rattle.layout.specs.declared.room.Room.{Room}
use Rattle.layout.specs.LockCells.{cells_of}
use Rattle.layout.specs.Layouts.{LayoutOf}
use Rattle.code.specs.Memory.{value_at, overwritten, Agrees}
use Rattle.history.specs.Commits.{IsTrueCommit}
use Rattle.lowering.specs.Plans.{Plan, IsCompiled}
use Rattle.lowering.specs.Working.Rooms.{IsRoomOf}
use Rattle.worlds.specs.Worlds.{Activation, activation, section_at, granted, instructed, next_effect, commit}
use Rattle.worlds.specs.Working.States.{IsWell}
use Rattle.worlds.specs.Waiting.{HasNext}
use Rattle.worlds.specs.Working.Ahead.{SeesTyped, IsReady}

-- an open section keeps the rules, whatever the others do, and it can go on
pub record IsInOrder (plan : Plan) (a : Activation) : Type 0 where
  pub well : IsWell plan a
  pub ready : IsReady plan a

-- the cells of a lock, in order, each with a value of its type
pub record AreCellsOf (plan : Plan) (lock : Lock) (values : List (ℕ × Value)) : Type 0 where
  pub cells : map (λ (x : ℕ × Value). x.0) values ≡ cells_of plan.layout.cell_locks lock
  pub typed : SeesTyped plan.program (λ cell. value_at values cell)

-- the room suffices for a run of the section: it is that of the section, but has at most all cells of the program, since
-- different locks share no cell
pub record Suffices (program : Typed) (layout : LayoutOf) (section : Section) (room : Room) : Type 0 where
  pub whole : Room
  pub is_whole : IsRoomOf program layout section whole
  pub is : room ≡ record whole { cells = min (length layout.cell_locks) whole.cells }

-- the same for the section with this number
abbrev pub SufficesFor : Plan → ℕ → Room → Type 0
SufficesFor plan k room =
    (section : Section) → slice_get plan.program.sections.items k ≡ Some section →
    Suffices plan.program plan.layout section room

-- the locks and their cells fit the room
pub record FitRoom (plan : Plan) (locks : List Lock) (room : Room) : Type 0 where
  pub locks_fit : length locks ≤ room.locks
  pub cells_fit : sum_by (λ (lock : Lock). length (cells_of plan.layout.cell_locks lock)) locks ≤ room.cells

-- the claim about a section that is in order
pub record SectionsStayInOrder : Type 0 where
  -- a call that fits begins in order
  pub begins : (plan : Plan) (begun : ℕ) (call : Invocation) → IsCompiled plan →
      CanCall plan.program call.section call.arguments → IsInOrder plan (activation plan begun call)
  -- the next instruction has its case, and keeps the section in order
  pub moves : (plan : Plan) (a : Activation) → IsCompiled plan → IsInOrder plan a → a.pending ≡ [] → a.outcome ≡ None →
      IsInOrder plan (instructed plan a (next_effect plan a))
  pub next : (plan : Plan) (a : Activation) → IsCompiled plan → IsInOrder plan a → a.pending ≡ [] → a.outcome ≡ None →
      HasNext plan a
  -- the next pending lock, granted with its cells, keeps the section in order, and so does asking for it
  pub gets : (plan : Plan) (a : Activation) (lock : Lock) (rest : List Lock) (values : List (ℕ × Value)) →
      IsCompiled plan → IsInOrder plan a → a.pending ≡ lock ∷ rest → AreCellsOf plan lock values →
      IsInOrder plan (granted a lock rest values)
  pub asks : (plan : Plan) (a : Activation) → IsCompiled plan → IsInOrder plan a →
      IsInOrder plan (record a { asked = true })
  -- the next pending lock comes after all locks that the section holds
  pub rises : (plan : Plan) (a : Activation) (lock other : Lock) (rest : List Lock) → IsInOrder plan a →
      a.pending ≡ lock ∷ rest → Contains a.held other → Precedes plan.ranks other lock
  -- if locks are pending, they and those that the section holds are locks of the program, and fit a room that suffices
  pub listed : (plan : Plan) (a : Activation) (first lock : Lock) (rest : List Lock) → IsCompiled plan →
      IsInOrder plan a → a.pending ≡ first ∷ rest → Contains (a.held ++ a.pending) lock →
      Contains plan.layout.locks lock
  pub fit : (plan : Plan) (a : Activation) (first : Lock) (rest : List Lock) (section : Section) (room : Room) →
      IsCompiled plan → IsInOrder plan a → a.pending ≡ first ∷ rest → section_at plan a.call.section ≡ Some section →
      Suffices plan.program plan.layout section room → FitRoom plan (a.held ++ a.pending) room
  -- if the section has an outcome, its entry is true, and its writes leave a heap of the program one of the program
  pub ends : (plan : Plan) (thread step : ℕ) (a : Activation) (outcome : Outcome) → IsCompiled plan →
      IsInOrder plan a → a.outcome ≡ Some outcome → IsTrueCommit plan.program (commit thread step a outcome)
  pub leaves : (plan : Plan) (a : Activation) (outcome : Outcome) (heap : List Value) → IsCompiled plan →
      IsInOrder plan a → a.outcome ≡ Some outcome → HasCells plan.program heap → IsHeap plan.program heap →
      Agrees heap a.machine.memory.reads → IsHeap plan.program (overwritten heap a.machine.memory.writes)
