-- The cells of a lock.
use Rattle.std.specs.Prelude.{◌≡◌, ℕ, ◌+◌, if◌then◌else◌, List, [], ◌∷◌, slice_get, Some}
use Rattle.locks.specs.declared.lock.Lock.{Lock}
use Rattle.locks.specs.Locks.{same_lock}

-- the cells that have the lock, where the list has the locks of the cells from the given number on
abbrev pub cells_from : ℕ → List Lock → Lock → List ℕ
cells_from cell [] lock = []
cells_from cell (l ∷ ls) lock = if same_lock l lock then cell ∷ cells_from (cell + 1) ls lock else cells_from (cell + 1) ls lock

-- the lock's cells, in order of their numbers, where the list has the lock of each cell
abbrev pub cells_of : List Lock → Lock → List ℕ
cells_of locks lock = cells_from 0 locks lock

-- the cell has the lock, and its index among the lock's cells is `offset`
pub record IsSlot (cell_locks : List Lock) (cell : ℕ) (lock : Lock) (offset : ℕ) : Type 0 where
  pub lock_is : slice_get cell_locks cell ≡ Some lock
  pub offset_is : slice_get (cells_of cell_locks lock) offset ≡ Some cell
