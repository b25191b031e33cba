-- Properties of an open section by itself, whatever the others do, and of how it belongs to the world. Nobody has to
-- believe this file.
use Rattle.std.specs.Prelude.{◌≡◌, ℕ, true, List, length, slice_get, Option, Some, None}
use Rattle.core_lang.specs.declared.value.Value.{Value}
use Rattle.core_lang.specs.declared.value.Outcome.{Outcome}
use Rattle.core_lang.specs.declared.tree.Section.{Section}
use Rattle.locks.specs.declared.lock.Lock.{Lock}
use Rattle.code.specs.Machine.{Machine, Standing, At, Halted}
use Rattle.code.specs.Memory.{Agrees, IsConsistent, IsPartOf}
use Rattle.code.specs.Alone.{alone}
use Rattle.code.specs.Working.Laws.{on_heap}
use Rattle.history.specs.Commits.{committed, IsLegal, AreTrue}
use Rattle.lowering.specs.Plans.{Plan, IsCompiled}
use Rattle.locks.specs.Locks.{among}
use Rattle.worlds.specs.Worlds.{World, Activation, section_at, code_at, locals_at, happens, opening_world, HasOpen}
use Rattle.worlds.specs.Claims.{HoldsCell}

-- the section holds the lock that protects a cell
abbrev pub HoldsLockOf : Plan → Activation → ℕ → Type 0
HoldsLockOf plan a cell =
    (lock : Lock) × (slice_get plan.layout.cell_locks cell ≡ Some lock) × (among a.held lock ≡ true)

-- the state that the code, run alone on a heap, has if the section has this outcome or none
abbrev pub standing : Option Outcome → Machine (List Value) → Standing (List Value)
standing None m = At m
standing (Some outcome) m = Halted outcome m.memory m.prints

-- an open section keeps the rules, whatever the others do. It holds exactly the cells of its locks. What it read and
-- wrote of them is what they hold. After some number of instructions its code, run alone on any heap that agrees with
-- its reads, is in its state, on that heap with its writes made
pub record IsWell (plan : Plan) (a : Activation) : Type 0 where
  pub section : Section
  pub is : section_at plan a.call.section ≡ Some section
  pub only : (cell : ℕ) → HoldsCell a cell → HoldsLockOf plan a cell
  pub all : (cell : ℕ) → HoldsLockOf plan a cell → HoldsCell a cell
  pub consistent : IsConsistent a.machine.memory
  pub count : ℕ
  pub truth : (heap : List Value) → length heap ≡ length plan.layout.opening → Agrees heap a.machine.memory.reads →
      alone plan.program.shape (code_at plan a.call.section) count (locals_at plan a.call) heap
      ≡ standing a.outcome (on_heap heap a.machine)

-- an open section fits a world: its cells are with it and nowhere else. Their values are those after the history with
-- its writes made, and the values that it read are those after the history
pub record IsFit (cells : List (Option Value)) (heap : List Value) (a : Activation) : Type 0 where
  pub moved : (cell : ℕ) → HoldsCell a cell → slice_get cells cell ≡ Some None
  pub part : IsPartOf heap a.machine.memory

-- a world is sound: its history is legal and true, each cell that has a value has the one that the history leaves, each
-- open section keeps the rules and fits, and each other cell is with exactly one of them
pub record IsSound (plan : Plan) (w : World) : Type 0 where
  pub legal : IsLegal plan.layout.opening w.history
  pub true_commits : AreTrue plan.program w.history
  pub size : length w.cells ≡ length plan.layout.opening
  pub values : (cell : ℕ) (v : Value) → slice_get w.cells cell ≡ Some (Some v) →
      slice_get (committed plan.layout.opening w.history) cell ≡ Some v
  pub well : (t : ℕ) (a : Activation) → HasOpen w t a → IsWell plan a
  pub fit : (t : ℕ) (a : Activation) → HasOpen w t a → IsFit w.cells (committed plan.layout.opening w.history) a
  pub somewhere : (cell : ℕ) → slice_get w.cells cell ≡ Some None →
      (t : ℕ) × (a : Activation) × HasOpen w t a × HoldsCell a cell
  pub apart : (t u : ℕ) (a b : Activation) (lock : Lock) → HasOpen w t a → HasOpen w u b → among a.held lock ≡ true →
      among b.held lock ≡ true → t ≡ u

-- the world before any step is sound
abbrev pub OpeningIsSound : Type 0
OpeningIsSound = (plan : Plan) → IsSound plan (opening_world plan)

-- a step of a thread keeps a world sound
abbrev pub StepsKeepSound : Type 0
StepsKeepSound =
    (plan : Plan) (w : World) (t : ℕ) → IsCompiled plan → IsSound plan w → IsSound plan (happens plan w t).1
