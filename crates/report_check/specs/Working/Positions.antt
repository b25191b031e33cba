-- Lines and columns of bytes. Nobody has to believe these.
use Rattle.std.specs.Prelude.{◌≡◌, ℕ, List, slice_get, Some}
use Rattle.source.specs.Faults.{line_of, column_of}
use Rattle.code.specs.declared.places.LineColumn.{LineColumn}

-- this is the line and column of a byte
abbrev pub IsPositionOf : List ℕ → ℕ → LineColumn → Type 0
IsPositionOf text at position = (position.line ≡ line_of text at) × (position.column ≡ column_of text at)

-- each item is the line and column of the byte at its index
abbrev pub ArePositionsOf : List ℕ → List LineColumn → Type 0
ArePositionsOf text positions = (at : ℕ) (position : LineColumn) → slice_get positions at ≡ Some position → IsPositionOf text at position
