-- The text of a history, as bytes: a first line that names the format, a line for each call with a line for each of its
-- prints, a line `cells`, a line for each cell, a line `end`.
use Rattle.std.specs.Prelude.{ℕ, ℤ, List, [], ◌∷◌, ◌++◌, map, codes, if◌then◌else◌}
use Rattle.std.specs.List.{flat_map}
use Rattle.std.specs.Fmt.{decimal, signed_decimal}
use Rattle.core_lang.specs.declared.value.Value.{Value}
use Rattle.core_lang.specs.declared.typed.Cell.{Cell}
use Rattle.core_lang.specs.declared.typed.Typed.{Typed}
use Rattle.core_lang.specs.Serial.{Scheduled}
use Rattle.code.specs.Listing.{line}
use Rattle.history.specs.Commits.{Commit}
use Rattle.input_files.specs.declared.format.Format.{Format}
use Rattle.input_files.specs.declared.format.Format.TheVariants.{One, Two}
use Rattle.input_files.specs.Lines.{header_of}
use Rattle.report.specs.Pieces.{place_text, invocation_text, value_text, outcome_text, owner_text}
use Rattle.report.specs.Entry.{Entry, scheduled_in, entry_of_commit}
use Rattle.report.specs.Values.{is_value}

-- ---- single lines, without their line feeds

-- print N
abbrev pub print_line : ℤ → List ℕ
print_line number = codes "print " ++ signed_decimal number

-- the length of the history at a call's begin, which the second format has
abbrev pub begun_text : Format → ℕ → List ℕ
begun_text One begun = []
begun_text Two begun = decimal begun ++ codes " "

-- the line of a call up to its end: call T K NAME(ARGUMENTS) , or call T K B NAME(ARGUMENTS) in the second format
abbrev pub call_head : Format → Typed → Scheduled → ℕ → List ℕ
call_head format program s begun =
    codes "call " ++ place_text s.thread s.step ++ codes " " ++ begun_text format begun
    ++ invocation_text program s.call.section s.call.arguments ++ codes " "

-- call T K NAME(ARGUMENTS) OUTCOME, or call T K B NAME(ARGUMENTS) OUTCOME
abbrev pub call_line : Format → Typed → Entry → List ℕ
call_line format program entry =
    call_head format program (scheduled_in entry) entry.begun ++ outcome_text program.shape entry.outcome

-- CELL VALUE
abbrev pub cell_line : Typed → Cell → Value → List ℕ
cell_line program cell value = owner_text program cell.owner ++ codes " " ++ value_text program.shape value

-- ---- the text

-- a line for each print
abbrev pub print_texts : List ℤ → List ℕ
print_texts prints = flat_map (λ number. line (print_line number)) prints

-- a call's line
abbrev pub call_text : Format → Typed → Entry → List ℕ
call_text format program entry = line (call_line format program entry)

-- a call's line, and its prints
abbrev pub entry_text : Format → Typed → Entry → List ℕ
entry_text format program entry = call_text format program entry ++ print_texts entry.prints

-- the line and the prints of each finished section
abbrev pub commit_texts : Format → Typed → List Commit → List ℕ
commit_texts format program commits = flat_map (entry_text format program) (map entry_of_commit commits)

-- a line for each cell in order
abbrev pub cell_texts : Typed → List Cell → List Value → List ℕ
cell_texts program [] values = []
cell_texts program (cell ∷ cells) [] = []
cell_texts program (cell ∷ cells) (value ∷ values) = line (cell_line program cell value) ++ cell_texts program cells values

-- a line for each cell whose value differs from its initial one
abbrev pub changed_texts : Typed → List Cell → List Value → List ℕ
changed_texts program [] values = []
changed_texts program (cell ∷ cells) [] = []
changed_texts program (cell ∷ cells) (value ∷ values) =
    (if is_value value cell.opening then [] else line (cell_line program cell value)) ++ changed_texts program cells values

-- the first line and the calls
abbrev pub calls_of : Format → Typed → List Entry → List ℕ
calls_of format program entries = line (header_of format) ++ flat_map (entry_text format program) entries

-- the cells and the last line
abbrev pub closing_of : Typed → List Value → List ℕ
closing_of program values = line (codes "cells") ++ cell_texts program program.cells.items values ++ line (codes "end")

-- the cells that changed, and the last line
abbrev pub changes_of : Typed → List Value → List ℕ
changes_of program values = line (codes "cells") ++ changed_texts program program.cells.items values ++ line (codes "end")

-- the whole text
abbrev pub history_of : Format → Typed → List Entry → List Value → List ℕ
history_of format program entries values = calls_of format program entries ++ closing_of program values

-- the whole text, with only the cells that changed
abbrev pub changed_history_of : Typed → List Entry → List Value → List ℕ
changed_history_of program entries values = calls_of One program entries ++ changes_of program values

-- the calls before one that is not settled, and the line of that one
abbrev pub unsettled_of : Typed → List Entry → ℕ → ℕ → List ℕ
unsettled_of program entries thread step =
    calls_of One program entries ++ line (codes "unsettled " ++ place_text thread step)
