-- What a history file says.
use Rattle.std.specs.Prelude.{◌≡◌, ℕ, ◌+◌, ◌==◌, nat_lt, List, [], ◌∷◌, ◌++◌, length, Option, Some, None}
use Rattle.std.specs.Prelude.{Result, Ok, Err, if◌then◌else◌}
use Rattle.std.specs.List.{slice_split}
use Rattle.input_files.specs.declared.format.Format.{Format}
use Rattle.input_files.specs.declared.stage.Stage.{Stage}
use Rattle.input_files.specs.declared.stage.Stage.TheVariants.{Opening, Called, Cells, Ended}
use Rattle.input_files.specs.declared.history_reading.Recorded.{Recorded}
use Rattle.input_files.specs.declared.history_refusal.HistoryCode.{HistoryCode}
use Rattle.input_files.specs.declared.history_refusal.HistoryCode.TheVariants.{BadHeader, BadLine, MissingEnd, LongLine}
use Rattle.input_files.specs.declared.history_refusal.HistoryFault.{HistoryFault}
use Rattle.input_files.specs.Lines.{format_of, after}
pub use Rattle.source.specs.Limits.{LINE_LIMIT}

-- the lines of a text: the bytes before each line feed
abbrev pub all_but_last : List (List ℕ) → List (List ℕ)
all_but_last [] = []
all_but_last (piece ∷ []) = []
all_but_last (piece ∷ next ∷ more) = piece ∷ all_but_last (next ∷ more)

abbrev pub lines_in : List ℕ → List (List ℕ)
lines_in text = all_but_last (slice_split (λ b. b == 10) text)

-- the lines of a history, or its first fault
abbrev pub Lines : Type 0
Lines = Result (List (List ℕ)) HistoryFault

-- a fault at a line
abbrev pub fault_at : {T : Type 0} → HistoryCode → ℕ → Result T HistoryFault
fault_at code line = Err (record { code = code; line = line })

-- the lines of a history with these before them, or its fault
abbrev pub in_front : List (List ℕ) → Lines → Lines
in_front lines (Ok more) = Ok (lines ++ more)
in_front lines (Err fault) = Err fault

-- a line that is allowed and what follows it, or the fault of the line
abbrev pub and_then : List ℕ → Option Stage → ℕ → (Stage → Lines) → Lines
and_then line (Some stage) number rest = in_front (line ∷ []) (rest stage)
and_then line None number rest = fault_at BadLine number

-- the fault that a line is too long, or else the result for the line
abbrev pub unless_long : {T : Type 0} → List ℕ → ℕ → Result T HistoryFault → Result T HistoryFault
unless_long line number rest = if nat_lt LINE_LIMIT (length line) then fault_at LongLine number else rest

-- what follows the last line feed: nothing, after the history's end
abbrev pub last_piece : Stage → ℕ → List ℕ → Lines
last_piece Ended number [] = Ok []
last_piece Ended number (byte ∷ bytes) = fault_at BadLine number
last_piece Opening number piece = fault_at MissingEnd number
last_piece Called number piece = fault_at MissingEnd number
last_piece Cells number piece = fault_at MissingEnd number

-- the lines among the pieces between line feeds, from a stage and a line number on; the last piece is not a line
abbrev pub lines_from : Format → Stage → ℕ → List (List ℕ) → Lines
lines_from format stage number [] = Ok []
lines_from format stage number (piece ∷ []) = unless_long piece number (last_piece stage number piece)
lines_from format stage number (line ∷ next ∷ more) =
    unless_long line number
    (and_then line (after format stage line) number (λ stage. lines_from format stage (number + 1) (next ∷ more)))

-- a history: its format, and its lines after the first
abbrev pub History : Type 0
History = Result (Format × List (List ℕ)) HistoryFault

-- the format with the lines, or the fault
abbrev pub with_format : Format → Lines → History
with_format format (Ok lines) = Ok (format, lines)
with_format format (Err fault) = Err fault

-- goes on with the format that the first line names; if it names none, its fault
abbrev pub if_format : Option Format → (Format → Lines) → History
if_format (Some format) rest = with_format format (rest format)
if_format None rest = fault_at BadHeader 1

-- the history in the pieces between line feeds
abbrev pub history_of_pieces : List (List ℕ) → History
history_of_pieces [] = fault_at MissingEnd 1
history_of_pieces (piece ∷ []) = unless_long piece 1 (fault_at MissingEnd 1)
history_of_pieces (line ∷ next ∷ more) =
    unless_long line 1 (if_format (format_of line) (λ format. lines_from format Opening 2 (next ∷ more)))

-- what a text says: its history, or the first fault by line
abbrev pub history_in : List ℕ → History
history_in text = history_of_pieces (slice_split (λ b. b == 10) text)

-- the lines that were read
abbrev pub recorded_lines : Recorded → List (List ℕ)
recorded_lines recorded = lines_in recorded.text.now

-- the result is this history, or this fault
abbrev pub Answers : Result Recorded HistoryFault → History → Type 0
Answers (Ok recorded) said = said ≡ Ok (recorded.format, recorded_lines recorded)
Answers (Err fault) said = said ≡ Err fault
