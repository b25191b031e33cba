-- Marks in a text. Nobody has to believe this.
use Rattle.std.specs.Prelude.{◌≡◌, ℕ, List}
use Rattle.std.specs.List.{All}
use Rattle.source.specs.declared.cursor.Cursor.{Cursor}

-- the mark is one of the text
abbrev pub IsOf : List ℕ → Cursor → Type 0
IsOf text mark = mark.text.now ≡ text

abbrev pub AreOf : List ℕ → List Cursor → Type 0
AreOf text marks = All (IsOf text) marks
