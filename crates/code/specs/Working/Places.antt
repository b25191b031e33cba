-- The positions of a section's instructions in the text, as values of the code have them.
use Rattle.std.specs.Prelude.{◌≡◌, ℕ, List, [], ◌++◌, map, slice_get, Option, option_and_then, codes}
use Rattle.std.specs.Option.{option_map_or}
use Rattle.source.specs.Faults.{line_of, column_of}
use Rattle.core_lang.specs.declared.tree.Section.{Section}
use Rattle.flow.specs.Points.{Point, points, start_of}
use Rattle.code.specs.declared.places.LineColumn.{LineColumn}
use Rattle.code.specs.declared.places.SectionPlaces.{SectionPlaces}
use Rattle.code.specs.LineTables.{position_text, point_at}

-- the position of a point's statement in a text
abbrev pub position_in : List ℕ → Point → LineColumn
position_in text point = record { line = line_of text (start_of point); column = column_of text (start_of point) }

-- these are the positions of a section of a program with this text
abbrev pub PlacesOf : List ℕ → Section → SectionPlaces → Type 0
PlacesOf text section places = places.positions.items ≡ map (position_in text) (points section)

-- the position of the instruction at a place, given the places where points begin
abbrev pub position_at : SectionPlaces → List ℕ → ℕ → Option LineColumn
position_at places begins place = option_and_then (λ point. slice_get places.positions.items point) (point_at begins place)

-- the text of the position of the instruction at a place
abbrev pub table_text : SectionPlaces → List ℕ → ℕ → List ℕ
table_text places begins place =
    option_map_or (λ (p : LineColumn). position_text p.line p.column ++ codes " ")
    (position_at places begins place) []
