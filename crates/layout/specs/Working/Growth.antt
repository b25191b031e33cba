-- One more class, object or cell. Nobody has to believe these.
use Rattle.std.specs.Prelude.{◌≡◌, List, [], ◌∷◌, ◌++◌, length, Some}
use Rattle.core_lang.specs.declared.value.Value.{Value}
use Rattle.core_lang.specs.declared.typed.LockClass.{LockClass}
use Rattle.core_lang.specs.declared.typed.LockField.{LockField}
use Rattle.locks.specs.declared.lock.Lock.{Lock}
use Rattle.layout.specs.declared.numbering.Numbering.{Numbering}
use Rattle.layout.specs.Layouts.{LayoutOf, if_global_lock}
use Rattle.layout.specs.Working.Numbers.{class_place, locks_at}

-- the next class is added, with its lock if it is a global lock
pub record AddsClass (class : LockClass) (old new : Numbering) : Type 0 where
  pub locks : new.locks.items ≡ old.locks.items ++ if_global_lock (length old.classes.items) (Some class)
  pub classes : new.classes.items ≡ old.classes.items ++ class_place (length old.locks.items) class ∷ []
  pub objects : new.objects.items ≡ old.objects.items

-- the next object is added, whose struct has these lock fields
pub record AddsObject (fields : List LockField) (old new : Numbering) : Type 0 where
  pub locks : new.locks.items ≡ old.locks.items ++ locks_at (length old.objects.items) fields
  pub classes : new.classes.items ≡ old.classes.items
  pub objects : new.objects.items ≡ old.objects.items ++ length old.locks.items ∷ []

-- a layout without cells
abbrev pub without_cells : Numbering → LayoutOf
without_cells numbering = record { opening = []; cell_locks = []; locks = numbering.locks.items }

-- a layout with one more cell
abbrev pub with_cell : LayoutOf → Value → Lock → LayoutOf
with_cell layout opening lock = record layout { opening = layout.opening ++ opening ∷ []; cell_locks = layout.cell_locks ++ lock ∷ [] }
