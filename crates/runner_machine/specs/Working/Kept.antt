-- The places of the cells of grants. Nobody has to believe these.
use Rattle.std.specs.Prelude.{◌≡◌, ◌<◌, ◌≤◌, ℕ, ◌+◌, List, [], ◌∷◌, ◌++◌, length, take, slice_get, Some}
use Rattle.std.specs.List.{All, Contains}
use Rattle.locks.specs.declared.lock.Lock.{Lock}
use Rattle.layout.specs.LockCells.{cells_of, IsSlot}
use Rattle.layout.specs.Layouts.{LayoutOf, AreDistinct}
use Rattle.moved_cells.specs.Working.Grants.{GrantOf, IsWhole, locks_of}
use Rattle.runner_machine.specs.Working.Held.{HoldingOf, cells_granted}
use Rattle.runner_machine.specs.Working.Noted.{NotesOf, in_order, AreNotes}

-- the cells of locks, one lock after another
abbrev pub cells_under : List Lock → List Lock → List ℕ
cells_under cell_locks [] = []
cells_under cell_locks (l ∷ ls) = cells_of cell_locks l ++ cells_under cell_locks ls

-- the number of values of these grants together
abbrev pub values_count : List GrantOf → ℕ
values_count [] = 0
values_count (g ∷ gs) = length g.values + values_count gs

-- the grant of a lock, and the place of its first cell
pub record IsGrantAt (grants : List GrantOf) (lock : Lock) (index first : ℕ) : Type 0 where
  pub grant : GrantOf
  pub is : slice_get grants index ≡ Some grant
  pub lock_is : grant.lock ≡ lock
  pub first_is : first ≡ values_count (take index grants)

-- the grant that has a cell, the cell's offset there, and its place
pub record IsSpot (cell_locks : List Lock) (grants : List GrantOf) (cell index offset place : ℕ) : Type 0 where
  pub grant : GrantOf
  pub is : slice_get grants index ≡ Some grant
  pub slot : IsSlot cell_locks cell grant.lock offset
  pub place_is : place ≡ values_count (take index grants) + offset
  pub offset_fits : offset < length grant.values
  pub place_fits : place < values_count grants

-- no grant has the cell
pub record IsElsewhere (cell_locks : List Lock) (grants : List GrantOf) (cell : ℕ) : Type 0 where
  pub other : (lock : Lock) → slice_get cell_locks cell ≡ Some lock → Contains (locks_of grants) lock → ⊥

-- the invariant of held cells: each grant has all cells of its lock, and no lock occurs twice. Only these cells are
-- noted as read or written, and there is room
pub record IsKept (cell_locks : List Lock) (grants : List GrantOf) (reads writes : NotesOf) (locks cells : ℕ)
    : Type 0 where
  pub whole : All (IsWhole cell_locks) grants
  pub distinct : AreDistinct (locks_of grants)
  pub reads_are : AreNotes (cells_under cell_locks (locks_of grants)) reads
  pub writes_are : AreNotes (cells_under cell_locks (locks_of grants)) writes
  pub reads_room : reads.room ≡ cells
  pub writes_room : writes.room ≡ cells
  pub locks_fit : length grants ≤ locks
  pub cells_fit : values_count grants ≤ cells

-- the held cells as data
abbrev pub holding_of : LayoutOf → List GrantOf → NotesOf → NotesOf → ℕ → ℕ → HoldingOf
holding_of layout grants reads writes locks cells = record {
  layout = layout;
  locks = locks_of grants;
  memory = record {
    cells = cells_granted layout.cell_locks grants;
    reads = in_order reads.list;
    writes = in_order writes.list;
  };
  lock_room = locks;
  cell_room = cells;
}
