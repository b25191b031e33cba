-- The lookup of the numbers of locks, and of the slots of cells. Nobody has to believe these.
use Rattle.std.specs.Prelude.{◌≡◌, ℕ, ◌+◌, ◌^◌, ◌<◌, List, length, map, slice_get, Option, Some}
use Rattle.core_lang.specs.declared.value.Value.{Value}
use Rattle.core_lang.specs.declared.typed.LockClass.{LockClass}
use Rattle.core_lang.specs.declared.typed.LockClass.TheVariants as class
use Rattle.core_lang.specs.declared.typed.LockField.{LockField}
use Rattle.core_lang.specs.declared.typed.Typed.{Typed}
use Rattle.core_lang.specs.Typing.{lookup}
use Rattle.locks.specs.declared.lock.Lock.{Lock}
use Rattle.layout.specs.declared.places.ClassPlace.{ClassPlace}
use Rattle.layout.specs.declared.places.ClassPlace.TheVariants as place
use Rattle.layout.specs.declared.places.CellPlace.{CellPlace}
use Rattle.layout.specs.LockCells.{cells_of}

-- ---- locks

-- the place of a class; the place of a global lock is the given number
abbrev pub class_place : ℕ → LockClass → ClassPlace
class_place number (class.Global name) = place.Global number
class_place number (class.Field s l) = place.Field l

-- the number of a lock, from its class's place and the number of its object's first lock
abbrev pub number_at : ClassPlace → Option ℕ → Option ℕ
number_at (place.Global number) object = Some number
number_at (place.Field l) object = lookup object (λ (first : ℕ). Some (first + l))

abbrev pub number_of : List ClassPlace → List ℕ → Lock → Option ℕ
number_of classes objects lock = lookup (slice_get classes lock.class) (λ (c : ClassPlace). number_at c (slice_get objects lock.object))

-- each lock is found at its number
abbrev pub AreNumbered : List ClassPlace → List ℕ → List Lock → Type 0
AreNumbered classes objects locks = (n : ℕ) (lock : Lock) → slice_get locks n ≡ Some lock → number_of classes objects lock ≡ Some n

-- the places of the first n classes of a program have the number of each lock field
abbrev pub KnowFields : Typed → ℕ → List ClassPlace → Type 0
KnowFields program n classes =
    (number s l : ℕ) → number < n → slice_get program.classes.items number ≡ Some (class.Field s l) →
    slice_get classes number ≡ Some (place.Field l)

-- the number of an object's lock field, if the object exists and the number fits the machine's word
abbrev pub FindsField : List ℕ → ℕ → ℕ → Option ℕ → Type 0
FindsField objects object l number =
    (n : ℕ) → n < 2 ^ 64 → number_at (place.Field l) (slice_get objects object) ≡ Some n → number ≡ Some n

-- the list has the lock fields of a struct, in order
abbrev pub AreFields : List ClassPlace → List LockField → Type 0
AreFields classes fields = (l : ℕ) (field : LockField) → slice_get fields l ≡ Some field → slice_get classes field.class ≡ Some (place.Field l)

-- the locks of an object whose struct has these lock fields
abbrev pub locks_at : ℕ → List LockField → List Lock
locks_at object fields = map (λ (x : LockField). record { class = x.class; object = object }) fields

-- ---- cells

abbrev pub openings_in : List CellPlace → List Value
openings_in cells = map (λ (x : CellPlace). x.opening) cells

abbrev pub locks_in : List CellPlace → List Lock
locks_in cells = map (λ (x : CellPlace). x.lock) cells

-- a cell's lock is among the locks, and the cell is at its offset
pub record IsPlaced (locks : List Lock) (cells : List CellPlace) (cell : ℕ) (x : CellPlace) : Type 0 where
  pub number : ℕ
  pub lock : slice_get locks number ≡ Some x.lock
  pub offset : slice_get (cells_of (locks_in cells) x.lock) x.offset ≡ Some cell

-- each cell is placed, and `sizes` has the number of cells of each lock
pub record ArePlaced (locks : List Lock) (cells : List CellPlace) (sizes : List ℕ) : Type 0 where
  pub long : length sizes ≡ length locks
  pub each : (cell : ℕ) (x : CellPlace) → slice_get cells cell ≡ Some x → IsPlaced locks cells cell x
  pub size : (number : ℕ) (lock : Lock) → slice_get locks number ≡ Some lock →
      slice_get sizes number ≡ Some (length (cells_of (locks_in cells) lock))
