-- Notes on a fault beyond its line.
use Rattle.std.specs.Prelude.{ℕ, List, ◌++◌, Option, Some, None, codes, string_bytes}
use Rattle.code.specs.Listing.{line}
use Rattle.source.specs.Faults.{place_text}
use Rattle.explanation.specs.declared.note.Note as written
use Rattle.explanation.specs.Shown.{shown_place}

-- a note on a place of the source text, or on the fault as a whole
pub record Note : Type 0 where
  pub start : Option ℕ
  pub words : List ℕ

-- the note that a value of the code stands for
abbrev pub note_of : written.Note → Note
note_of note = record { start = note.start; words = string_bytes note.words }

-- FILE:LINE:COL: LABEL WORDS, and the place
abbrev pub labelled_text : List ℕ → List ℕ → List ℕ → ℕ → List ℕ → List ℕ
labelled_text label file text start words = line (place_text file text start label words) ++ shown_place text start

-- FILE:LINE:COL: note: WORDS, and the place
abbrev pub placed_text : List ℕ → List ℕ → ℕ → List ℕ → List ℕ
placed_text file text start words = labelled_text (codes "note:") file text start words

-- note: WORDS
abbrev pub said_text : List ℕ → List ℕ
said_text words = line (codes "note: " ++ words)

-- the text of a note: with its place, if it has one
abbrev pub told_text : List ℕ → List ℕ → Option ℕ → List ℕ → List ℕ
told_text file text (Some start) words = placed_text file text start words
told_text file text None words = said_text words

-- the text of a note on a fault in the file
abbrev pub note_text : List ℕ → List ℕ → Note → List ℕ
note_text file text note = told_text file text note.start note.words
