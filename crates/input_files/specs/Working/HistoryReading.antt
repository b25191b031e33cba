-- What the parts of the reader pass on. It mirrors the code, and nobody has to believe it.
use Rattle.std.specs.Prelude.{◌≡◌, ℕ, List, [], ◌∷◌, Result, Ok, Err}
use Rattle.input_files.specs.declared.history_reading.Reader.{Reader}
use Rattle.input_files.specs.declared.history_refusal.HistoryFault.{HistoryFault}
use Rattle.input_files.specs.Histories.{Lines, in_front, last_piece, lines_from, unless_long}

-- the lines among these pieces, or their fault, from the state of the reader on
abbrev pub lines_at : Reader → List (List ℕ) → Lines
lines_at reader pieces = lines_from reader.format reader.stage reader.number pieces

-- the reader took a line: whatever pieces follow, it precedes their lines
abbrev pub TakesLine : Reader → Reader → List ℕ → Type 0
TakesLine old new line = (next : List ℕ) (more : List (List ℕ)) →
    lines_at old (line ∷ next ∷ more) ≡ in_front (line ∷ []) (lines_at new (next ∷ more))

-- the line has this fault, whatever pieces follow
abbrev pub IsFaultOfLine : Reader → List ℕ → HistoryFault → Type 0
IsFaultOfLine reader line fault = (next : List ℕ) (more : List (List ℕ)) → lines_at reader (line ∷ next ∷ more) ≡ Err fault

-- this piece may be the last one: the history has ended
abbrev pub IsEnd : Reader → List ℕ → Type 0
IsEnd reader piece = unless_long piece reader.number (last_piece reader.stage reader.number piece) ≡ Ok []

-- this piece, as the last one, has this fault
abbrev pub IsFaultOfEnd : Reader → List ℕ → HistoryFault → Type 0
IsFaultOfEnd reader piece fault = unless_long piece reader.number (last_piece reader.stage reader.number piece) ≡ Err fault

-- the result agrees with the definition: it is these lines, or this fault
abbrev pub Judges : {T : Type 0} → Lines → List (List ℕ) → Result T HistoryFault → Type 0
Judges said lines (Ok nothing) = said ≡ Ok lines
Judges said lines (Err fault) = said ≡ Err fault
