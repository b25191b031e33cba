-- The cells whose values differ from the opening values. Nobody has to believe this file.
use Rattle.std.specs.Prelude.{◌≡◌, ℕ, zero, suc, Bool, true, false, List, [], ◌∷◌, ◌++◌, length, slice_set, slice_index_or}
use Rattle.std.specs.Prelude.{nat_eq, if◌then◌else◌, Some, None}
use Rattle.std.specs.List.{Contains}
use Rattle.std.specs.Ordering.{int_eq}
use Rattle.core_lang.specs.declared.value.Value.{Value}
use Rattle.core_lang.specs.declared.value.Value.TheVariants.{Int, Ref}
use Rattle.meaning.specs.Working.Undo.{IsAmong}
use Rattle.outcomes.specs.declared.state.Change.{Change}

abbrev pub same_value : Value → Value → Bool
same_value (Int a) (Int b) = int_eq a b
same_value (Int a) (Ref b) = false
same_value (Ref a) (Int b) = false
same_value (Ref None) (Ref None) = true
same_value (Ref None) (Ref (Some b)) = false
same_value (Ref (Some a)) (Ref None) = false
same_value (Ref (Some a)) (Ref (Some b)) = nat_eq a b

-- the value of a cell
abbrev pub held : List Value → ℕ → Value
held cells k = slice_index_or cells k (Ref None)

-- the cells with these changes, the first one first
abbrev pub applied : List Change → List Value → List Value
applied [] cells = cells
applied (c ∷ changes) cells = applied changes (slice_set cells c.cell c.value)

-- the change of a cell, if its value differs from the opening value
abbrev pub change_at : List Value → List Value → ℕ → List Change
change_at opening cells k =
    if same_value (held opening k) (held cells k) then [] else record { cell = k; value = held cells k } ∷ []

-- the changes of the first cells, up to the given number, in order
abbrev pub changes_below : List Value → List Value → ℕ → List Change
changes_below opening cells zero = []
changes_below opening cells (suc k) = changes_below opening cells k ++ change_at opening cells k

-- the changes of all cells
abbrev pub changes_of : List Value → List Value → List Change
changes_of opening cells = changes_below opening cells (length opening)

-- the changes are those of the cells that they lead to, so that two lists of changes are equal if the cells are
abbrev pub AreChanges : List Value → List Change → Type 0
AreChanges opening changes = changes ≡ changes_of opening (applied changes opening)

-- each cell that was overwritten is among these
abbrev pub AreAmong : List (ℕ × Value) → List ℕ → Type 0
AreAmong writes cells = (cell : ℕ) → IsAmong cell writes → Contains cells cell
