-- The cells of the locks that a section holds.
use Rattle.std.specs.Prelude.{◌≡◌, ◌<◌, ◌≤◌, ℕ, ◌+◌, Bool, true, false, List, [], ◌∷◌, ◌++◌, length, Option, Some, None}
use Rattle.std.specs.List.{Contains}
use Rattle.core_lang.specs.declared.value.Value.{Value}
use Rattle.locks.specs.declared.lock.Lock.{Lock}
use Rattle.code.specs.Memory.{HeldCells, none_held, load_held, store_held}
use Rattle.layout.specs.Layouts.{LayoutOf}
use Rattle.moved_cells.specs.Working.Grants.{GrantOf, cells_in, IsWhole}

-- the cells that a section holds: the layout, the locks, the oldest first, and the cells with what the section read and
-- wrote. The rooms are the numbers of locks and of cells that it can hold
pub record HoldingOf : Type 0 where
  pub layout : LayoutOf
  pub locks : List Lock
  pub memory : HeldCells
  pub lock_room : ℕ
  pub cell_room : ℕ

-- the cells of grants, one grant after another, each with its value
abbrev pub cells_granted : List Lock → List GrantOf → List (ℕ × Value)
cells_granted cell_locks [] = []
cells_granted cell_locks (g ∷ gs) = cells_in cell_locks g ++ cells_granted cell_locks gs

-- the grant can be added: its lock isn't held, it has all cells of the lock, and there is room for both
pub record CanHold (h : HoldingOf) (g : GrantOf) : Type 0 where
  pub new : Contains h.locks g.lock → ⊥
  pub whole : IsWhole h.layout.cell_locks g
  pub lock_fits : length h.locks < h.lock_room
  pub cells_fit : length h.memory.cells + length g.values ≤ h.cell_room

-- no grants, and room for the given numbers of locks and cells
abbrev pub no_grants : LayoutOf → ℕ → ℕ → HoldingOf
no_grants layout locks cells = record {
  layout = layout;
  locks = [];
  memory = none_held;
  lock_room = locks;
  cell_room = cells;
}

-- the held cells with one more grant
abbrev pub with_grant : HoldingOf → GrantOf → HoldingOf
with_grant h g = record h {
  locks = h.locks ++ g.lock ∷ [];
  memory = record h.memory { cells = h.memory.cells ++ cells_in h.layout.cell_locks g };
}

-- the state after the grants were moved out: no locks, cells or room; what was read and written stays
abbrev pub without_grants : HoldingOf → HoldingOf
without_grants h = record {
  layout = h.layout;
  locks = [];
  memory = record h.memory { cells = [] };
  lock_room = 0;
  cell_room = 0;
}

-- the same state with other cells, reads and writes
abbrev pub with_memory : HoldingOf → HeldCells → HoldingOf
with_memory h memory = record h { memory = memory }

-- the result and the effect of a read; none if the cell is not held
abbrev pub IsLoad : HoldingOf → ℕ → Option Value → HoldingOf → Type 0
IsLoad old cell (Some v) new =
    (load_held old.memory cell ≡ Some (v, new.memory)) × (new ≡ with_memory old new.memory)
IsLoad old cell None new = (load_held old.memory cell ≡ None) × (new ≡ old)

-- the result and the effect of a write; it is true if the cell is held
abbrev pub IsStore : HoldingOf → ℕ → Value → Bool → HoldingOf → Type 0
IsStore old cell v true new = (store_held old.memory cell v ≡ Some new.memory) × (new ≡ with_memory old new.memory)
IsStore old cell v false new = (store_held old.memory cell v ≡ None) × (new ≡ old)
