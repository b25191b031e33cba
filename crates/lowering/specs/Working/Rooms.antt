-- The most that one run of a section can need.
use Rattle.std.specs.Prelude.{◌≡◌, ℕ, ◌==◌, max, if◌then◌else◌, List, [], ◌∷◌, length, slice_get, Some}
use Rattle.std.specs.List.{sum_by, count_by}
use Rattle.core_lang.specs.declared.tree.Section.{Section}
use Rattle.core_lang.specs.declared.typed.Typed.{Typed}
use Rattle.locks.specs.declared.lock.Lock.{Lock}
use Rattle.locks.specs.declared.path.Root.{Root}
use Rattle.locks.specs.declared.path.Root.TheVariants.{GlobalLock, WholeClass, Local as AtLocal}
use Rattle.locks.specs.LockPaths.{LockPath, lock_paths, most_locks}
use Rattle.layout.specs.declared.room.Room.{Room}
use Rattle.layout.specs.LockCells.{cells_of}
use Rattle.layout.specs.Layouts.{LayoutOf}
use Rattle.code.specs.Needs.{operand_need}

-- the most cells that one of these locks of the class protects; 0 if none has the class
abbrev pub most_among : List Lock → List Lock → ℕ → ℕ
most_among cell_locks [] class = 0
most_among cell_locks (lock ∷ locks) class =
    if lock.class == class
    then max (length (cells_of cell_locks lock)) (most_among cell_locks locks class)
    else most_among cell_locks locks class

-- the most cells that a lock of a class protects
abbrev pub most_cells : LayoutOf → ℕ → ℕ
most_cells layout class = most_among layout.cell_locks layout.locks class

-- the number of cells that the locks of a class protect together
abbrev pub all_cells : LayoutOf → ℕ → ℕ
all_cells layout class = count_by (λ (lock : Lock). lock.class == class) layout.cell_locks

-- the most cells that the locks which a path of this class names protect: those of one lock, or those of the whole class
abbrev pub cells_from : LayoutOf → Root → ℕ → ℕ
cells_from layout GlobalLock class = most_cells layout class
cells_from layout (WholeClass structure) class = all_cells layout class
cells_from layout (AtLocal local) class = most_cells layout class

-- the most cells that the locks which a path names protect
abbrev pub cells_under : LayoutOf → LockPath → ℕ
cells_under layout path = cells_from layout path.root path.class

-- the most that one run of a section needs: the locks that its lock paths can name together, with the most cells that
-- these can protect, the operands of its deepest stack, and its locals
pub record IsRoomOf (program : Typed) (layout : LayoutOf) (section : Section) (room : Room) : Type 0 where
  pub locks : room.locks ≡ most_locks program.shape (lock_paths program section)
  pub cells : room.cells ≡ sum_by (cells_under layout) (lock_paths program section)
  pub operands : room.operands ≡ operand_need section
  pub locals : room.locals ≡ length section.locals.items

-- the room of each section
pub record AreRoomsOf (program : Typed) (layout : LayoutOf) (rooms : List Room) : Type 0 where
  pub long : length rooms ≡ length program.sections.items
  pub each : (k : ℕ) (section : Section) (room : Room) → slice_get program.sections.items k ≡ Some section →
      slice_get rooms k ≡ Some room → IsRoomOf program layout section room
