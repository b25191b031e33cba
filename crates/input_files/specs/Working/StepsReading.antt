-- The results of reading an item part by part, and what a piece of a file adds. Nobody has to believe this file.
use Rattle.std.specs.Prelude.{◌≡◌, ℕ, ◌+◌, List, ◌∷◌, length, min, Option, Some, None, Err}
use Rattle.core_lang.specs.declared.typed.Thread.{Thread}
use Rattle.input_files.specs.declared.item.Until.{Until}
use Rattle.input_files.specs.declared.item.Until.TheVariants.{Count, Stop, CallEnd}
use Rattle.input_files.specs.declared.steps_reading.Reader.{Reader}
use Rattle.input_files.specs.declared.steps_refusal.StepsFault.{StepsFault}
use Rattle.input_files.specs.Steps.{items_from, in_front}

-- a number greater than all that count
abbrev pub cap : ℕ
cap = 100000000000

-- the end of an item, with a count of at most the cap
abbrev pub capped_until : Until → Until
capped_until (Count count) = Count (min count cap)
capped_until Stop = Stop
capped_until CallEnd = CallEnd

abbrev pub capped_of : Option Until → Option Until
capped_of None = None
capped_of (Some until) = Some (capped_until until)

-- the reader took a piece: whatever pieces follow, it has the same items in the end as with the piece still to come
abbrev pub TakesPiece : List Thread → ℕ → List ℕ → Reader → Reader → Type 0
TakesPiece threads start piece old new = (pieces : List (List ℕ)) →
    in_front new.items.items (items_from threads (start + (length piece + 1)) new.steps pieces)
    ≡ in_front old.items.items (items_from threads start old.steps (piece ∷ pieces))

-- the piece at `start`, after items that count `before` steps, has this fault, whatever pieces follow
abbrev pub IsFaultOfPiece : List Thread → ℕ → ℕ → List ℕ → StepsFault → Type 0
IsFaultOfPiece threads start before piece fault = (pieces : List (List ℕ)) →
    items_from threads start before (piece ∷ pieces) ≡ Err fault
