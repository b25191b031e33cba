-- The text of `outcomes`, as bytes. Its first line has the number of explored orders of a program's calls, and says
-- whether these are all, or that they represent all; in both cases a line with the number of states follows. Each end
-- has a line with the number of orders that lead to it (unless the explored orders represent all) and one of these
-- orders, a line `cells`, a line for each cell that is asked for, and a line `end`. If answers are asked for, a line
-- `answers` and a line for each call precede that last line. An end after the first one leaves out the lines that the
-- first one has too, unless all ends are written in full.
use Rattle.std.specs.Prelude.{ℕ, ◌+◌, Bool, true, false, if◌then◌else◌, nat_eq, List, [], ◌∷◌, ◌++◌, sum_by, codes}
use Rattle.std.specs.Prelude.{Option, Some, None, slice_get, slice_index, slice_index_or}
use Rattle.std.specs.List.{flat_map}
use Rattle.std.specs.Option.{option_eq, option_map_or}
use Rattle.std.specs.Fmt.{decimal}
use Rattle.core_lang.specs.declared.value.Value.{Value}
use Rattle.core_lang.specs.declared.value.Outcome.{Outcome}
use Rattle.core_lang.specs.declared.value.Outcome.TheVariants.{Ends, Returns, Traps}
use Rattle.core_lang.specs.declared.typed.Typed.{Typed}
use Rattle.core_lang.specs.Serial.{Scheduled, all_calls}
use Rattle.core_lang.specs.Traps.{trap_number}
use Rattle.code.specs.Listing.{line}
use Rattle.outcomes.specs.declared.outcome.Asked.{Asked}
use Rattle.outcomes.specs.declared.outcome.Cells.{Cells}
use Rattle.outcomes.specs.declared.outcome.Cells.TheVariants.{Every, These}
use Rattle.outcomes.specs.Ends.{Left, Told}
use Rattle.report_runs.specs.declared.ends.Scope.{Scope}
use Rattle.report_runs.specs.declared.ends.Scope.TheVariants.{All as Every_order, Reduced, Drawn}
use Rattle.report.specs.History.{call_head, cell_line}
use Rattle.report.specs.Pieces.{outcome_text}
use Rattle.report.specs.Values.{is_value}
use Rattle.input_files.specs.declared.format.Format.TheVariants.{One}

-- ---- what an end has in common with the first one

-- two outcomes are the same
abbrev pub is_outcome : Outcome → Outcome → Bool
is_outcome Ends Ends = true
is_outcome Ends (Returns b) = false
is_outcome Ends (Traps b) = false
is_outcome (Returns a) Ends = false
is_outcome (Returns a) (Returns b) = is_value a b
is_outcome (Returns a) (Traps b) = false
is_outcome (Traps a) Ends = false
is_outcome (Traps a) (Returns b) = false
is_outcome (Traps a) (Traps b) = nat_eq (trap_number a) (trap_number b)

-- a line, unless it is left out
abbrev pub unless : Bool → List ℕ → List ℕ
unless left_out text = if left_out then [] else text

-- ---- cells

-- the number of the cell at this place among the cells that are asked for
abbrev pub asked_number : Cells → ℕ → ℕ
asked_number Every place = place
asked_number (These numbers) place = slice_index numbers.items place

-- CELL VALUE
abbrev pub cell_text : Typed → ℕ → Value → List ℕ
cell_text program number value = option_map_or (λ cell. line (cell_line program cell value)) (slice_get program.cells.items number) []

-- a line for each value from this place on, except those that the first end has at the same place
abbrev pub cell_texts : Typed → Cells → List Value → ℕ → List Value → List ℕ
cell_texts program cells first place [] = []
cell_texts program cells first place (value ∷ values) =
    unless (option_map_or (is_value value) (slice_get first place) false) (cell_text program (asked_number cells place) value)
    ++ cell_texts program cells first (place + 1) values

-- ---- answers

-- call T K NAME(ARGUMENTS) OUTCOME
abbrev pub answer_text : Typed → Scheduled → Option Outcome → List ℕ
answer_text program call None = []
answer_text program call (Some outcome) = line (call_head One program call 0 ++ outcome_text program.shape outcome)

-- a line for each call from this number on, except those that had the same outcome in the first end
abbrev pub answer_texts : Typed → List (Option Outcome) → List (Option Outcome) → ℕ → List Scheduled → List ℕ
answer_texts program first answers number [] = []
answer_texts program first answers number (call ∷ calls) =
    unless (option_eq is_outcome (slice_index_or answers number None) (slice_index_or first number None))
    (answer_text program call (slice_index_or answers number None))
    ++ answer_texts program first answers (number + 1) calls

-- those lines after a line `answers`, if answers are asked for
abbrev pub answers_text : Bool → Typed → List (Option Outcome) → List (Option Outcome) → List ℕ
answers_text false program first answers = []
answers_text true program first answers = line (codes "answers") ++ answer_texts program first answers 0 (all_calls program)

-- ---- an end

-- the threads of an order, each after a space
abbrev pub order_text : List ℕ → List ℕ
order_text order = flat_map (λ thread. codes " " ++ decimal thread) order

-- the number of orders with an end, unless the explored orders represent all
abbrev pub count_text : Scope → ℕ → List ℕ
count_text (Every_order states) count = decimal count ++ codes " "
count_text (Reduced states) count = []
count_text Drawn count = decimal count ++ codes " "

-- outcome N after T T .., and what differs from the first end
abbrev pub end_text : Typed → Asked → Scope → Left → Told → List ℕ
end_text program asked scope first end =
    line (codes "outcome " ++ count_text scope end.count ++ codes "after" ++ order_text end.order)
    ++ line (codes "cells") ++ cell_texts program asked.cells first.cells 0 end.left.cells
    ++ answers_text asked.answers program first.answers end.left.answers ++ line (codes "end")

-- the contents of all cells that are asked for
abbrev pub whole_cells_text : Typed → Cells → List Value → List ℕ
whole_cells_text program cells values = line (codes "cells") ++ cell_texts program cells [] 0 values ++ line (codes "end")

-- an empty end, from which everything differs
abbrev pub nothing : Left
nothing = record { cells = []; answers = [] }

-- each end: the first in full, the others in full or only their differences from it
abbrev pub ends_text : Typed → Asked → Bool → Scope → List Told → List ℕ
ends_text program asked full scope [] = []
ends_text program asked full scope (first ∷ others) =
    end_text program asked scope nothing first ++ flat_map (end_text program asked scope (if full then nothing else first.left)) others

-- ---- the text

-- the number of explored orders
abbrev pub looked_at : List Told → ℕ
looked_at ends = sum_by (λ (end : Told). end.count) ends

-- `orders N all` and `states S`, or `orders reduced` and `states S`, or `orders N drawn`
abbrev pub head_text : ℕ → Scope → List ℕ
head_text count (Every_order states) = line (codes "orders " ++ decimal count ++ codes " all") ++ line (codes "states " ++ decimal states)
head_text count (Reduced states) = line (codes "orders reduced") ++ line (codes "states " ++ decimal states)
head_text count Drawn = line (codes "orders " ++ decimal count ++ codes " drawn")

-- the whole text: the head and the ends
abbrev pub outcomes_text : Typed → Asked → Bool → Scope → List Told → List ℕ
outcomes_text program asked full scope ends = head_text (looked_at ends) scope ++ ends_text program asked full scope ends
