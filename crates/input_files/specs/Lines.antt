-- The forms of a history's lines, and which may follow which.
use Rattle.std.specs.Prelude.{ℕ, Bool, false, ◌==◌, ◌&&◌, ◌||◌, List, [], ◌∷◌, length, drop, nat_le, codes}
use Rattle.std.specs.Prelude.{Option, Some, None, if◌then◌else◌}
use Rattle.std.specs.Str.{bytes_eq}
use Rattle.input_files.specs.declared.format.Format.{Format}
use Rattle.input_files.specs.declared.format.Format.TheVariants.{One, Two}
use Rattle.input_files.specs.declared.stage.Stage.{Stage}
use Rattle.input_files.specs.declared.stage.Stage.TheVariants.{Opening, Called, Cells, Ended}
use Rattle.input_files.specs.Pieces.{before, behind, begins, is_name, is_count, is_number, is_value, is_member}
use Rattle.input_files.specs.Pieces.{are_arguments}

-- the first line of a history in each format
abbrev pub header_of : Format → List ℕ
header_of One = codes "history 1"
header_of Two = codes "history 2"

-- the format that a first line names
abbrev pub format_of : List ℕ → Option Format
format_of text = if bytes_eq text (codes "history 1") then Some One
    else if bytes_eq text (codes "history 2") then Some Two else None

-- the number of a trap: 1 to 6
abbrev pub is_trap : List ℕ → Bool
is_trap [] = false
is_trap (first ∷ rest) = nat_le 49 first && (nat_le first 54 && (length rest == 0))

-- ends, returns VALUE or traps N
abbrev pub is_ending : List ℕ → Bool
is_ending text = bytes_eq text (codes "ends")
    || ((begins (codes "returns ") text && is_value (drop 8 text)) || (begins (codes "traps ") text && is_trap (drop 6 text)))

-- a space and `END`, after the closing parenthesis of a call
abbrev pub is_behind_call : List ℕ → Bool
is_behind_call [] = false
is_behind_call (first ∷ rest) = (first == 32) && is_ending rest

-- NAME(ARGUMENTS) END
abbrev pub is_invoked : List ℕ → Bool
is_invoked text =
    let inside = behind 40 text in
    is_name (before 40 text) && (are_arguments (before 41 inside) && is_behind_call (behind 41 inside))

-- a number and a space, and a rest of this form
abbrev pub is_count_and : (List ℕ → Bool) → List ℕ → Bool
is_count_and is_rest text = is_count (before 32 text) && is_rest (behind 32 text)

-- what follows a call's thread and its number; in the second format this begins with the history's length at the call's
-- begin
abbrev pub is_told_call : Format → List ℕ → Bool
is_told_call One = is_invoked
is_told_call Two = is_count_and is_invoked

-- call T K NAME(ARGUMENTS) END, and call T K B NAME(ARGUMENTS) END
abbrev pub is_call : Format → List ℕ → Bool
is_call format text =
    begins (codes "call ") text && is_count_and (is_count_and (is_told_call format)) (drop 5 text)

-- print N
abbrev pub is_print : List ℕ → Bool
is_print text = begins (codes "print ") text && is_number (drop 6 text)

-- n, a[0] or p[0].x
abbrev pub is_cell_name : List ℕ → Bool
is_cell_name text = is_name text || (is_member text || (is_member (before 46 text) && is_name (behind 46 text)))

-- CELL VALUE
abbrev pub is_cell : List ℕ → Bool
is_cell text = is_cell_name (before 32 text) && is_value (behind 32 text)

-- the stage after a line among the calls: `cells` ends them, and any other allowed line stays among them
abbrev pub among_calls : List ℕ → Bool → Option Stage
among_calls text allowed = if bytes_eq text (codes "cells") then Some Cells else if allowed then Some Called else None

-- the stage after a line, if it is allowed at this stage
abbrev pub after : Format → Stage → List ℕ → Option Stage
after format Opening text = among_calls text (is_call format text)
after format Called text = among_calls text (is_call format text || is_print text)
after format Cells text = if bytes_eq text (codes "end") then Some Ended else if is_cell text then Some Cells else None
after format Ended text = None
