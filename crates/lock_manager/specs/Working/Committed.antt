-- The values that the entries leave in the cells, and the lookup of a lock's cells. Nobody has to believe these.
use Rattle.std.specs.Prelude.{◌≡◌, ◌<◌, ℕ, List, length, map}
use Rattle.std.specs.List.{All}
use Rattle.std.proofs.Common.{Vec, Global}
use Rattle.core_lang.specs.declared.value.Value.{Value}
use Rattle.locks.specs.declared.lock.Lock.{Lock}
use Rattle.code.specs.Memory.{overwritten}
use Rattle.layout.specs.LockCells.{cells_of}
use Rattle.layout.specs.Layouts.{LayoutOf, AreDistinct}
use Rattle.moved_cells.specs.Working.Grants.{GrantOf, values_on}

-- the layout of a program, and the values of its cells
pub record CommittedOf : Type 0 where
  pub layout : LayoutOf
  pub values : List Value

abbrev pub at_opening : LayoutOf → CommittedOf
at_opening layout = record { layout = layout; values = layout.opening }

abbrev pub with_writes : CommittedOf → List (ℕ × Value) → CommittedOf
with_writes c writes = record c { values = overwritten c.values writes }

-- the values of a lock's cells
abbrev pub lock_values : CommittedOf → Lock → List Value
lock_values c lock = values_on c.values (cells_of c.layout.cell_locks lock)

abbrev pub restored : CommittedOf → Lock → GrantOf
restored c lock = record { lock = lock; values = lock_values c lock }

-- each write is of a cell that has a value
abbrev pub AreOfCells : CommittedOf → List (ℕ × Value) → Type 0
AreOfCells c writes = All (λ (w : ℕ × Value). w.0 < length c.values) writes

-- the cells of each lock, by the lock's number
abbrev pub members_of : LayoutOf → List (List ℕ)
members_of layout = map (λ (l : Lock). cells_of layout.cell_locks l) layout.locks

abbrev pub rows : List (Vec ℕ Global) → List (List ℕ)
rows vectors = map (λ (v : Vec ℕ Global). v.items) vectors

-- the first list has the cells of each lock, and the second a value for each cell
pub record IsComplete (layout : LayoutOf) (numbers : List (List ℕ)) (values : List Value) : Type 0 where
  pub members : numbers ≡ members_of layout
  pub count : length values ≡ length layout.cell_locks
  pub distinct : AreDistinct layout.locks
