-- The layout of a program.
use Rattle.std.specs.Prelude.{◌≡◌, ℕ, zero, suc, ◌↔◌, List, [], ◌∷◌, ◌++◌, length, map, slice_get, Option, Some, None}
use Rattle.std.specs.List.{Contains}
use Rattle.core_lang.specs.declared.value.Value.{Value}
use Rattle.core_lang.specs.declared.typed.LockClass.{LockClass}
use Rattle.core_lang.specs.declared.typed.LockClass.TheVariants as class
use Rattle.core_lang.specs.declared.typed.LockField.{LockField}
use Rattle.core_lang.specs.declared.typed.Struct.{Struct}
use Rattle.core_lang.specs.declared.typed.Typed.{Typed}
use Rattle.core_lang.specs.Serial.{opening_heap}
use Rattle.core_lang.specs.Typing.{lookup, struct_of}
use Rattle.locks.specs.declared.lock.Lock.{Lock}
use Rattle.locks.specs.Locks.{global_lock, IsLock, lock_of_cell}

-- a layout: for each cell its initial value and the lock that protects it, and the locks by number
pub record LayoutOf : Type 0 where
  pub opening : List Value
  pub cell_locks : List Lock
  pub locks : List Lock

-- ---- the locks of a program

-- the lock of a class, if it is a global lock
abbrev pub if_global_lock : ℕ → Option LockClass → List Lock
if_global_lock number None = []
if_global_lock number (Some (class.Global name)) = global_lock number ∷ []
if_global_lock number (Some (class.Field s l)) = []

-- the global locks among the first n classes, by class
abbrev pub global_locks : Typed → ℕ → List Lock
global_locks program zero = []
global_locks program (suc n) = global_locks program n ++ if_global_lock n (slice_get program.classes.items n)

-- the lock fields of a struct; none without a struct
abbrev pub lock_fields : Option Struct → List LockField
lock_fields None = []
lock_fields (Some x) = x.locks.items

-- the struct of an object
abbrev pub object_struct : Typed → ℕ → Option Struct
object_struct program object = lookup (struct_of program.shape object) (λ s. slice_get program.structs.items s)

-- an object's locks, in the order of its struct's lock fields
abbrev pub locks_of_object : Typed → ℕ → List Lock
locks_of_object program object = map (λ (x : LockField). record { class = x.class; object = object }) (lock_fields (object_struct program object))

-- the locks of the first n objects, object after object
abbrev pub object_locks : Typed → ℕ → List Lock
object_locks program zero = []
object_locks program (suc n) = object_locks program n ++ locks_of_object program n

-- all locks of a program: the global locks, then those of the objects
abbrev pub all_locks : Typed → List Lock
all_locks program = global_locks program (length program.classes.items) ++ object_locks program (length program.shape.objects.items)

-- no lock has two numbers
abbrev pub AreDistinct : List Lock → Type 0
AreDistinct locks = (i j : ℕ) (lock : Lock) → slice_get locks i ≡ Some lock → slice_get locks j ≡ Some lock → i ≡ j

-- ---- the whole

-- the layout of the program: each cell with its initial value and its lock, and all locks, each once
pub record IsLayoutOf (program : Typed) (layout : LayoutOf) : Type 0 where
  pub opening : layout.opening ≡ opening_heap program
  pub cells : length layout.cell_locks ≡ length program.cells.items
  pub cell_locks : (cell : ℕ) → slice_get layout.cell_locks cell ≡ lock_of_cell program cell
  -- the lock of each cell is one of the locks
  pub cells_listed : (cell : ℕ) (lock : Lock) → slice_get layout.cell_locks cell ≡ Some lock →
      Contains layout.locks lock
  -- the list has exactly the program's locks, each once, in the order of `all_locks`
  pub listed : (lock : Lock) → Contains layout.locks lock ↔ IsLock program lock
  pub distinct : AreDistinct layout.locks
  pub order : layout.locks ≡ all_locks program
