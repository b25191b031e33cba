-- Warnings about an accepted program that may not be as meant.
use Rattle.std.specs.Prelude.{ℕ, List, ◌++◌, codes, string_bytes}
use Rattle.explanation.specs.declared.warning.Warned as written_words
use Rattle.explanation.specs.declared.warning.Warned.TheVariants as says
use Rattle.explanation.specs.declared.warning.Warning as written
use Rattle.explanation.specs.Notes.{labelled_text}

-- a warning about a place of the source text
pub record Warning : Type 0 where
  pub start : ℕ
  pub words : List ℕ

-- ---- words

-- the words of a warning about a lock
abbrev pub useless_words : List ℕ → List ℕ
useless_words name = name ++ codes " protects nothing"

-- the words of a warning about a local
abbrev pub unused_words : List ℕ → List ℕ
unused_words name = name ++ codes " is never used"

-- the words of a warning about a helper
abbrev pub uncalled_words : List ℕ → List ℕ
uncalled_words name = name ++ codes " is never called"

-- the words of a warning about a section
abbrev pub idle_words : List ℕ → List ℕ
idle_words name = name ++ codes " is called by no thread"

-- the words of a warning about a class that a section lists
abbrev pub unneeded_words : List ℕ → List ℕ
unneeded_words name = name ++ codes " is listed here, and no access of the section needs it"

-- the words of a warning about a loop
abbrev pub unchanged_words : List ℕ
unchanged_words = codes "nothing in this loop changes its condition: once entered, it ends only by a trap"

-- ---- values of the code

abbrev pub words_of : written_words.Warned → List ℕ
words_of (says.UselessLock name) = useless_words (string_bytes name)
words_of (says.UnusedLocal name) = unused_words (string_bytes name)
words_of (says.UncalledHelper name) = uncalled_words (string_bytes name)
words_of (says.UncalledSection name) = idle_words (string_bytes name)
words_of (says.UnneededClass name) = unneeded_words (string_bytes name)
words_of says.UnchangedCondition = unchanged_words

abbrev pub warning_of : written.Warning → Warning
warning_of w = record { start = w.start; words = words_of w.what }

-- ---- the text

-- FILE:LINE:COL: warning: WORDS, and the place
abbrev pub warning_text : List ℕ → List ℕ → Warning → List ℕ
warning_text file text w = labelled_text (codes "warning:") file text w.start w.words
