-- The words of notes.
use Rattle.explanation.specs.Notes.{Note}
use Rattle.std.specs.Prelude.{ℕ, List, ◌++◌, Some, None}
use Rattle.syntax.specs.Trees.{Ident}

-- a note on a place
abbrev pub note_on : ℕ → List ℕ → Note
note_on start words = record { start = Some start; words = words }

-- a note on the fault as a whole
abbrev pub note_of_all : List ℕ → Note
note_of_all words = record { start = None; words = words }

-- NAME WORDS, at the name
abbrev pub name_note : Ident → List ℕ → Note
name_note x words = note_on x.span.start (x.text ++ words)
