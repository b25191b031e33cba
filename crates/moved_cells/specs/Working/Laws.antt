-- Laws of grants, as the laws of `src/laws.rt` claim them.
use Rattle.std.specs.Prelude.{◌≡◌, ℕ, List, length, map, slice_get, slice_set}
use Rattle.core_lang.specs.declared.value.Value.{Value}
use Rattle.locks.specs.declared.lock.Lock.{Lock}
use Rattle.code.specs.Memory.{value_at, with_changed, Agrees}
use Rattle.layout.specs.LockCells.{cells_of, IsSlot}
use Rattle.moved_cells.specs.Working.Grants.{GrantOf, cells_in, IsWhole, values_on}

-- the cells of a grant are those of its lock
abbrev pub HasItsCells : Type 0
HasItsCells =
    (cell_locks : List Lock) (grant : GrantOf) → IsWhole cell_locks grant →
    map (λ (x : ℕ × Value). x.0) (cells_in cell_locks grant) ≡ cells_of cell_locks grant.lock

-- the value at a cell's offset is the cell's
abbrev pub OffsetsFindValues : Type 0
OffsetsFindValues =
    (cell_locks : List Lock) (grant : GrantOf) (cell offset : ℕ) → IsWhole cell_locks grant →
    IsSlot cell_locks cell grant.lock offset →
    value_at (cells_in cell_locks grant) cell ≡ slice_get grant.values offset

-- a write at a cell's offset changes the cell
abbrev pub OffsetsChangeCells : Type 0
OffsetsChangeCells =
    (cell_locks : List Lock) (grant : GrantOf) (cell offset : ℕ) (v : Value) → IsWhole cell_locks grant →
    IsSlot cell_locks cell grant.lock offset →
    cells_in cell_locks (record grant { values = slice_set grant.values offset v })
    ≡ with_changed (cells_in cell_locks grant) cell v

-- a heap has a value for each cell of a lock
abbrev pub ValuesAreWhole : Type 0
ValuesAreWhole =
    (cell_locks : List Lock) (heap : List Value) (lock : Lock) → length heap ≡ length cell_locks →
    IsWhole cell_locks (record { lock = lock; values = values_on heap (cells_of cell_locks lock) })

-- the heap agrees with the grant that has the heap's values
abbrev pub ValuesAgree : Type 0
ValuesAgree =
    (cell_locks : List Lock) (heap : List Value) (lock : Lock) → length heap ≡ length cell_locks →
    Agrees heap (cells_in cell_locks (record { lock = lock; values = values_on heap (cells_of cell_locks lock) }))
