-- The invariants of a row's word, and of the threads of its entries. It mirrors the code: nobody has to believe it.
use Rattle.std.specs.Prelude.{ℕ, ◌≡◌, ◌<◌, ◌+◌, ◌==◌, true, List, [], ◌∷◌, ◌++◌, drop, length, slice_index_or, MatchBool}
use Rattle.std.specs.List.{All}
use Rattle.logbook.specs.Pages.{Cell, Step, View, Book, Named}
use Rattle.history.specs.Commits.{Commit}
use Rattle.workers.specs.Logs.{NoneOf}

-- the first word is the length of the row. A book has two words, and the second one stays 0 here
pub record IsKept (cells : List Cell) (log : List Commit) : Type 0 where
  pub words : cells ≡ (length log, true) ∷ (0, true) ∷ []

-- the word of a row
abbrev pub word_of : Book → Named
word_of book = record { tracked = true; key = 0; book = book }

-- if the word was equal to the length of what had been seen, the entry was appended to that
abbrev pub Adds : Step Commit → View Commit ℕ → ℕ → View Commit ℕ → Type 0
Adds s v found w = MatchBool (found == s.old) (w.0 ≡ v.0 ++ s.ask ∷ []) (Unit {0})

-- the word that was found is the length of the row
abbrev pub Looks : Step Commit → View Commit ℕ → ℕ → View Commit ℕ → Type 0
Looks s v found w = found ≡ length w.0

-- for each thread, the length of the log with its last entry; 0 if it has none
pub record AreEnds (ends : List ℕ) (log : List Commit) : Type 0 where
  pub threads : All (λ (c : Commit). c.thread < length ends) log
  pub behind : (t : ℕ) → t < length ends → NoneOf t (drop (slice_index_or ends t 0) log)
  pub last : (t n : ℕ) (d : Commit) → t < length ends → n + 1 ≡ slice_index_or ends t 0 →
      (n < length log) × ((slice_index_or log n d).thread ≡ t)
