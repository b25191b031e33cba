-- The cells that are seen of a memory, and the accesses for which they are enough.
use Rattle.std.specs.Prelude.{◌≡◌, ℕ, List, slice_get, Option, Some}
use Rattle.std.specs.List.{Contains}
use Rattle.core_lang.specs.declared.value.Value.{Value}
use Rattle.core_lang.specs.declared.shape.Shape.{Shape}
use Rattle.locks.specs.Accesses.{Access, Target}
use Rattle.locks.specs.Working.Reached.{Reaches}
use Rattle.code.specs.Memory.{HeldCells, value_at}

-- a memory, by the values that are seen of its cells: a seen cell can be read, which changes no seen value, and
-- written, which changes only the seen value of that cell
pub record IsMemory {M : Type 0} (load : M → ℕ → Option (Value × M)) (store : M → ℕ → Value → Option M)
    (view : M → ℕ → Option Value) : Type 0 where
  pub loads : (m : M) (cell : ℕ) (v : Value) → view m cell ≡ Some v →
      (next : M) × (load m cell ≡ Some (v, next)) × ((c : ℕ) → view next c ≡ view m c)
  pub stores : (m : M) (cell : ℕ) (old v : Value) → view m cell ≡ Some old →
      (next : M) × (store m cell v ≡ Some next) × (view next cell ≡ Some v) ×
      ((c : ℕ) → (c ≡ cell → ⊥) → view next c ≡ view m c)

-- the value that is seen of a held cell
abbrev pub held_value : HeldCells → ℕ → Option Value
held_value held cell = value_at held.cells cell

-- a cell is seen
abbrev pub IsSeen : (ℕ → Option Value) → ℕ → Type 0
IsSeen seen cell = (v : Value) × (seen cell ≡ Some v)

-- the seen values are those of the heap
abbrev pub Shows : (ℕ → Option Value) → List Value → Type 0
Shows seen heap = (cell : ℕ) (v : Value) → seen cell ≡ Some v → slice_get heap cell ≡ Some v

-- over a state, and what is seen of cells
module _ (shape : Shape) (locals heap : List Value) (seen : ℕ → Option Value) where
  -- the cell that an access reaches is seen as the heap has it
  abbrev pub IsAccessible : Target → Type 0
  IsAccessible target =
      (cell : ℕ) (v : Value) → Reaches shape locals heap target cell → slice_get heap cell ≡ Some v → seen cell ≡ Some v

  -- the same of each of some accesses
  abbrev pub Covers : List Access → Type 0
  Covers accesses = (a : Access) → Contains accesses a → IsAccessible a.target
