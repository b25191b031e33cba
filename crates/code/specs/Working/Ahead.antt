-- What is ahead of a machine: instructions that have their case, until a point begins or there is an outcome.
use Rattle.std.specs.Prelude.{◌≡◌, ◌≤◌, ℕ, List, [], length, slice_get, Option, Ok}
use Rattle.core_lang.specs.declared.value.Value.{Value}
use Rattle.core_lang.specs.declared.value.Outcome.{Outcome}
use Rattle.core_lang.specs.declared.value.Outcome.TheVariants.{Ends, Returns, Traps}
use Rattle.core_lang.specs.declared.shape.Shape.{Shape}
use Rattle.core_lang.specs.declared.tree.Section.{Section}
use Rattle.core_lang.specs.Meaning.{State, GoesOn, Astray, value_of}
use Rattle.core_lang.specs.Meaning as meaning
use Rattle.flow.specs.Skeletons.{skeleton}
use Rattle.flow.specs.Flow.{Follows}
use Rattle.flow.specs.Points.{Point, statement, result}
use Rattle.flow.specs.Working.Effects.{effect_at}
use Rattle.locks.specs.Accesses.{accesses_at}
use Rattle.code.specs.declared.instr.Instr.{Instr}
use Rattle.code.specs.Machine.{Machine, Effect, Moves, Asks, Finishes, Undefined, act}
use Rattle.code.specs.Working.Seen.{IsSeen, Shows, Covers}
use Rattle.code.specs.Working.Spots.{Spot, InSection}

-- ---- safe machines

-- for a memory, a code, the allowed outcomes, the states in which the machine has arrived, and the room for operands
module _ {M : Type 0} (load : M → ℕ → Option (Value × M)) (store : M → ℕ → Value → Option M) (shape : Shape)
    (code : List Instr) (IsAllowed : Outcome → Type 0) (HasArrived : Machine M → Type 0) (room : ℕ) where
  -- the operands fit and each instruction has its case, until the machine has arrived or is at an outcome that is
  -- allowed; a machine that is to ask for locks must have arrived
  pub data Safe : Machine M → Type 0 where
    there : {m : Machine M} → HasArrived m → Safe m
    moves : {m next : Machine M} → length m.stack ≤ room →
        act load store shape (slice_get code m.place) m ≡ Moves next → Safe next → Safe m
    finishes : {m : Machine M} {outcome : Outcome} → length m.stack ≤ room →
        act load store shape (slice_get code m.place) m ≡ Finishes outcome → IsAllowed outcome → Safe m

  -- the machine is safe after an instruction with this effect
  abbrev pub Goes : Effect M → Type 0
  Goes (Moves next) = Safe next
  Goes (Asks point) = ⊥
  Goes (Finishes outcome) = IsAllowed outcome
  Goes Undefined = ⊥

  -- the operands fit, the next instruction has its case, and the machine is safe after it
  abbrev pub Steps : Machine M → Type 0
  Steps m = (length m.stack ≤ room) × Goes (act load store shape (slice_get code m.place) m)

-- ---- from point to point

-- a machine at a place between points: its stack is empty, and it has the locals and prints of a state
abbrev pub between_points : {M : Type 0} → ℕ → State → M → Machine M
between_points place s memory =
    record { place = place; stack = []; locals = s.locals; memory = memory; prints = s.prints }

-- a point can be executed from a state: the cells that are seen have the values of the heap, those that the point
-- accesses are seen, and it does not lead astray
pub record CanExecute (shape : Shape) (point : Point) (s : State) (seen : ℕ → Option Value) : Type 0 where
  pub shows : Shows seen s.heap
  pub covers : Covers shape s.locals s.heap seen (accesses_at point)
  pub sound : effect_at point shape s ≡ Astray → ⊥

-- the outcomes of a section at a point, from a state: the trap that the point leads to, the value of a `return`, and
-- the end after any other point
abbrev pub MayEnd : Shape → Point → State → Outcome → Type 0
MayEnd shape point s (Traps t) = (later : State) × (effect_at point shape s ≡ meaning.Traps t later)
MayEnd shape (statement start action) s (Returns v) = ⊥
MayEnd shape (result r) s (Returns v) = value_of r.value shape s.locals s.heap ≡ Ok v
MayEnd shape (statement start action) s Ends =
    (later : State) × (effect_at (statement start action) shape s ≡ GoesOn later)
MayEnd shape (result r) s Ends = ⊥

-- a machine has come from a point to one that follows it, in the state that the point leads to. The cells that it sees
-- have the values of that state's heap, and it sees those that it saw before
pub record HasComeOn {P M : Type 0} (view : M → ℕ → Option Value) (shape : Shape) (lists : List (List P))
    (section : Section) (from : Spot) (s : State) (seen : ℕ → Option Value) (m : Machine M) : Type 0 where
  pub later : State
  pub leads : effect_at from.point shape s ≡ GoesOn later
  pub to : Spot
  pub inside : InSection lists section to
  pub follows : Follows (skeleton section) from.number to.number
  pub is : m ≡ between_points to.place later m.memory
  pub shows : Shows (view m.memory) later.heap
  pub keeps : (cell : ℕ) → IsSeen seen cell → IsSeen (view m.memory) cell
