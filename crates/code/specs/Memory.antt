-- Memories: a whole heap, and the cells of the locks that a section holds.
use Rattle.std.specs.Prelude.{◌≡◌, ℕ, ◌<◌, nat_lt, nat_eq, if◌then◌else◌, List, [], ◌∷◌, length, map, slice_get}
use Rattle.std.specs.Prelude.{slice_set, Option, Some, None, ⊤}
use Rattle.core_lang.specs.declared.value.Value.{Value}

-- ---- a whole heap

-- the value, if there is one, with the memory
abbrev pub beside : {M : Type 0} → M → Option Value → Option (Value × M)
beside memory (Some v) = Some (v, memory)
beside memory None = None

-- the value of a cell, with the heap
abbrev pub load_from : List Value → ℕ → Option (Value × List Value)
load_from heap cell = beside heap (slice_get heap cell)

-- a heap with a cell written, if it has the cell
abbrev pub written_where : Option Value → List Value → ℕ → Value → Option (List Value)
written_where (Some old) heap cell v = Some (slice_set heap cell v)
written_where None heap cell v = None

-- the heap after a write to a cell, if it has the cell
abbrev pub store_to : List Value → ℕ → Value → Option (List Value)
store_to heap cell v = written_where (slice_get heap cell) heap cell v

-- ---- values of some cells

-- the value of a cell
abbrev pub value_at : List (ℕ × Value) → ℕ → Option Value
value_at [] cell = None
value_at (x ∷ xs) cell = if nat_eq x.0 cell then Some x.1 else value_at xs cell

-- the values with one cell's value set; the cells stay in the order of their numbers, each once
abbrev pub with_value : List (ℕ × Value) → ℕ → Value → List (ℕ × Value)
with_value [] cell v = (cell, v) ∷ []
with_value (x ∷ xs) cell v =
    if nat_lt cell x.0 then (cell, v) ∷ x ∷ xs else if nat_eq cell x.0 then (cell, v) ∷ xs else x ∷ with_value xs cell v

-- the values with one cell's value changed, if it has one
abbrev pub with_changed : List (ℕ × Value) → ℕ → Value → List (ℕ × Value)
with_changed [] cell v = []
with_changed (x ∷ xs) cell v = if nat_eq x.0 cell then (cell, v) ∷ xs else x ∷ with_changed xs cell v

-- ---- cells of locks that are held

-- the cells that a section holds, with their current values, and for the cells that it used, what it first read before
-- any write, and what it last wrote
pub record HeldCells : Type 0 where
  pub cells : List (ℕ × Value)
  pub reads : List (ℕ × Value)
  pub writes : List (ℕ × Value)

-- a value that was found is noted as read, unless the section wrote it
abbrev pub noted : HeldCells → ℕ → Value → Option Value → HeldCells
noted held cell v None = record held { reads = with_value held.reads cell v }
noted held cell v (Some written) = held

-- the value of a cell, if it is held, with the read noted
abbrev pub read_if_held : HeldCells → ℕ → Option Value → Option (Value × HeldCells)
read_if_held held cell (Some v) = Some (v, noted held cell v (value_at held.writes cell))
read_if_held held cell None = None

-- the value of a cell, with the read noted
abbrev pub load_held : HeldCells → ℕ → Option (Value × HeldCells)
load_held held cell = read_if_held held cell (value_at held.cells cell)

-- a write, if the cell is held
abbrev pub write_if_held : HeldCells → Option Value → ℕ → Value → Option HeldCells
write_if_held held (Some old) cell v =
    Some (record held { cells = with_changed held.cells cell v; writes = with_value held.writes cell v })
write_if_held held None cell v = None

-- a write to a cell, if it is held
abbrev pub store_held : HeldCells → ℕ → Value → Option HeldCells
store_held held cell v = write_if_held held (value_at held.cells cell) cell v

-- held cells of which none has been read or written
abbrev pub opened : List (ℕ × Value) → HeldCells
opened cells = record { cells = cells; reads = []; writes = [] }

-- no cells yet
abbrev pub none_held : HeldCells
none_held = opened []

-- each cell that was written holds what was written, and each that was only read what was read
pub record IsConsistent (held : HeldCells) : Type 0 where
  pub written : (cell : ℕ) (v : Value) → value_at held.writes cell ≡ Some v → value_at held.cells cell ≡ Some v
  pub read : (cell : ℕ) (v : Value) → value_at held.writes cell ≡ None → value_at held.reads cell ≡ Some v →
      value_at held.cells cell ≡ Some v

-- ---- held cells beside a heap

-- a heap with values written into it; of two values for one cell the first counts
abbrev pub overwritten : List Value → List (ℕ × Value) → List Value
overwritten heap [] = heap
overwritten heap (w ∷ ws) = slice_set (overwritten heap ws) w.0 w.1

-- a heap has these values
abbrev pub Agrees : List Value → List (ℕ × Value) → Type 0
Agrees heap [] = ⊤
Agrees heap (r ∷ rs) = (slice_get heap r.0 ≡ Some r.1) × Agrees heap rs

-- each of the cells is one of the heap
abbrev pub IsCovered : List (ℕ × Value) → List Value → Type 0
IsCovered cells heap = (cell : ℕ) (v : Value) → value_at cells cell ≡ Some v → cell < length heap

-- held cells are part of a heap: with their writes made, the heap has their values; and the heap has the values that
-- were read
pub record IsPartOf (heap : List Value) (held : HeldCells) : Type 0 where
  pub now : (cell : ℕ) (v : Value) → value_at held.cells cell ≡ Some v →
      slice_get (overwritten heap held.writes) cell ≡ Some v
  pub reads : Agrees heap held.reads

-- the same cells are held. Consistent ones stay consistent, and those that are part of a heap stay part of it. A heap
-- that has the values read afterwards also has those read before
pub record Keeps (before after : HeldCells) : Type 0 where
  pub cells : map (λ (x : ℕ × Value). x.0) after.cells ≡ map (λ (x : ℕ × Value). x.0) before.cells
  pub consistent : IsConsistent before → IsConsistent after
  pub part : (heap : List Value) → IsPartOf heap before → IsPartOf heap after
  pub agreed : (heap : List Value) → IsConsistent before → Agrees heap after.reads → Agrees heap before.reads
