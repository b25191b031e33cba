-- The tables of `src/class_sizes.rt`. Nobody has to believe this file.
use Rattle.std.specs.Prelude.{◌≡◌, ℕ, List, length, slice_get, slice_index, Some}
use Rattle.core_lang.specs.declared.typed.Typed.{Typed}
use Rattle.locks.specs.declared.path.Root.{Root}
use Rattle.locks.specs.declared.path.Root.TheVariants.{GlobalLock, WholeClass, Local as AtLocal}
use Rattle.locks.specs.Locks.{members_of}
use Rattle.locks.specs.LockPaths.{LockPath}
use Rattle.layout.specs.Layouts.{LayoutOf}
use Rattle.lowering.specs.declared.class_sizes.ClassSizes.{ClassSizes}
use Rattle.lowering.specs.Working.Rooms.{most_cells, all_cells}

-- for each struct of the table, the number of its objects
abbrev pub CountObjects : Typed → List ℕ → Type 0
CountObjects program counts = (s count : ℕ) → slice_get counts s ≡ Some count → count ≡ length (members_of program.shape s)

-- the tables have the sizes of a program's classes and structs
pub record AreSizes (program : Typed) (layout : LayoutOf) (x : ClassSizes) : Type 0 where
  pub most : (class : ℕ) → slice_index x.most.items class ≡ most_cells layout class
  pub all : (class : ℕ) → slice_index x.all.items class ≡ all_cells layout class
  pub objects : CountObjects program x.objects.items

-- by the tables, the most cells that the locks which a path of this class names protect
abbrev pub cells_by_root : ClassSizes → Root → ℕ → ℕ
cells_by_root x GlobalLock class = slice_index x.most.items class
cells_by_root x (WholeClass structure) class = slice_index x.all.items class
cells_by_root x (AtLocal local) class = slice_index x.most.items class

-- the same of a path
abbrev pub cells_by : ClassSizes → LockPath → ℕ
cells_by x path = cells_by_root x path.root path.class
