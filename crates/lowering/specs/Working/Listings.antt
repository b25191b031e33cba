-- The values that the code of a listing works on. Nobody has to believe this file.
use Rattle.std.specs.Prelude.{ℕ, List, ⊤, Option, Some, None}
use Rattle.std.specs.Borrow.{Bor}
use Rattle.source.specs.declared.cursor.Cursor.{Cursor}
use Rattle.core_lang.specs.declared.tree.Section.{Section}
use Rattle.code.specs.declared.places.SectionPlaces.{SectionPlaces}
use Rattle.code.specs.Working.Places.{PlacesOf}

-- the program's text, if there is one
abbrev pub text_of : Option (Bor (List ℕ)) → Option (List ℕ)
text_of None = None
text_of (Some text) = Some text.now

-- the text of the cursor, if there is one
abbrev pub text_at : Option Cursor → Option (List ℕ)
text_at None = None
text_at (Some cursor) = Some cursor.text.now

-- if there is a text, these are the positions of a section in it
abbrev pub AreTold : Option (List ℕ) → Section → Option SectionPlaces → Type 0
AreTold None section None = ⊤
AreTold (Some text) section (Some places) = PlacesOf text section places
AreTold _ section _ = ⊥
