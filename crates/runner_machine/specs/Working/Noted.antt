-- Values noted at places. Nobody has to believe these.
use Rattle.std.specs.Prelude.{◌≡◌, ◌<◌, ◌≤◌, ℕ, nat_eq, if◌then◌else◌, List, [], ◌∷◌, ◌++◌, length, slice_get}
use Rattle.std.specs.Prelude.{slice_set, Option, Some, None, ⊤, ◌-◌, replicate}
use Rattle.core_lang.specs.declared.value.Value.{Value}
use Rattle.code.specs.Memory.{value_at, with_value}

-- notes: for each place a mark, the index of the note that its cell may have; the noted cells with their values, in the
-- order in which they were first noted. The room is the number of places that can be noted
pub record NotesOf : Type 0 where
  pub marks : List ℕ
  pub list : List (ℕ × Value)
  pub room : ℕ

-- the marks, padded with 0 to the given length
abbrev pub padded : List ℕ → ℕ → List ℕ
padded marks long = marks ++ replicate (long - length marks) 0

-- marks of 0 were appended, so that the place has a mark, and no more than that needs
pub record IsFilled (marks : List ℕ) (place : ℕ) (marks' : List ℕ) : Type 0 where
  pub more : ℕ
  pub is : marks' ≡ marks ++ replicate more 0
  pub there : place < length marks'
  pub within : (long : ℕ) → length marks ≤ long → place < long → length marks' ≤ long

-- the index, if the note there is of the cell
abbrev pub if_of : ℕ → ℕ → Option (ℕ × Value) → Option ℕ
if_of cell number None = None
if_of cell number (Some x) = if nat_eq x.0 cell then Some number else None

abbrev pub led_by : List (ℕ × Value) → ℕ → Option ℕ → Option ℕ
led_by list cell None = None
led_by list cell (Some mark) = if_of cell mark (slice_get list mark)

-- the index of the note of the cell at a place. A mark counts only if it leads to a note of this cell, so that the
-- marks of former sections may stay
abbrev pub number_of : NotesOf → ℕ → ℕ → Option ℕ
number_of n place cell = led_by n.list cell (slice_get n.marks place)

-- the notes with the note at an index replaced, or with one more
abbrev pub with_note_at : NotesOf → ℕ → ℕ → Value → Option ℕ → NotesOf
with_note_at n place cell v (Some number) = record n { list = slice_set n.list number (cell, v) }
with_note_at n place cell v None =
    record n { marks = slice_set n.marks place (length n.list); list = n.list ++ (cell, v) ∷ [] }

-- the notes with the value of the cell at a place noted
abbrev pub with_note : NotesOf → ℕ → ℕ → Value → NotesOf
with_note n place cell v = with_note_at n place cell v (number_of n place cell)

-- the list in order of the cells' numbers
abbrev pub in_order : List (ℕ × Value) → List (ℕ × Value)
in_order [] = []
in_order (x ∷ xs) = with_value (in_order xs) x.0 x.1

-- no cell has two values
abbrev pub EachOnce : List (ℕ × Value) → Type 0
EachOnce [] = ⊤
EachOnce (x ∷ xs) = (value_at xs x.0 ≡ None) × EachOnce xs

-- the cell has a place, whose mark is this number
pub record IsMarked (cells marks : List ℕ) (cell number : ℕ) : Type 0 where
  pub place : ℕ
  pub cell_is : slice_get cells place ≡ Some cell
  pub mark_is : slice_get marks place ≡ Some number

-- the invariant of notes, where the list has the cells by place: no cell is noted twice. If there is room, each noted
-- cell is one of these and is found by its mark, and each place has a mark
pub record AreNotes (cells : List ℕ) (n : NotesOf) : Type 0 where
  pub marked : 0 < n.room → (k : ℕ) (x : ℕ × Value) → slice_get n.list k ≡ Some x → IsMarked cells n.marks x.0 k
  pub once : EachOnce n.list
  pub long : n.room ≤ length n.marks

-- no notes, and the given number of places
pub record AreEmptyNotes (places : ℕ) (n : NotesOf) : Type 0 where
  pub list : n.list ≡ []
  pub room : n.room ≡ places
  pub long : places ≤ length n.marks
