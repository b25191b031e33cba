-- The lines that may come next where a history is read, given a program, the callers, and the limit of turns of each
-- execution of a loop.
use Rattle.std.specs.Prelude.{◌≡◌, ◌≤◌, ◌<◌, ◌^◌, ℕ, ℤ, ◌==◌, Bool, true, false, List, [], ◌∷◌, ◌++◌, length, map}
use Rattle.std.specs.Prelude.{count_by, slice_get, codes, Option, Some, ⊤}
use Rattle.std.specs.Option.{option_map_or}
use Rattle.core_lang.specs.declared.value.Value.{Value}
use Rattle.core_lang.specs.declared.typed.Cell.{Cell}
use Rattle.core_lang.specs.declared.typed.Thread.{Thread}
use Rattle.core_lang.specs.declared.typed.Typed.{Typed}
use Rattle.core_lang.specs.WellFormed.{CanCall}
use Rattle.core_lang.specs.Whole.{Finished, Over, Beyond_turns}
use Rattle.core_lang.specs.Serial.{Scheduled, opening_heap, script_from, run_call}
use Rattle.input_files.specs.declared.format.Format.{Format}
use Rattle.input_files.specs.declared.format.Format.TheVariants.{One, Two}
use Rattle.report.specs.Pieces.{invocation_text, outcome_text}
use Rattle.report.specs.Entry.{Entry, scheduled_in}
use Rattle.report.specs.History.{call_head, print_line, cell_line}
use Rattle.replay.specs.declared.callers.Callers.{Callers}
use Rattle.replay.specs.declared.callers.Callers.TheVariants.{Scripts, Anyone}
use Rattle.replay.specs.Told.{invocation_in}

-- ---- lines

-- a line for each print
abbrev pub print_lines : List ℤ → List (List ℕ)
print_lines prints = map print_line prints

-- a line for each cell
abbrev pub cell_lines : Typed → List Cell → List Value → List (List ℕ)
cell_lines program [] values = []
cell_lines program (cell ∷ cells) [] = []
cell_lines program (cell ∷ cells) (value ∷ values) = cell_line program cell value ∷ cell_lines program cells values

-- the cells' lines and the last line of a history
abbrev pub closing_lines : Typed → List Value → List (List ℕ)
closing_lines program heap = cell_lines program program.cells.items heap ++ codes "end" ∷ []

-- ---- a reader

-- the progress in a history: the threads of the calls so far, in order, the values of all cells after these calls, the
-- lines that are due, and whether `cells` has come
pub record Reader : Type 0 where
  pub order : List ℕ
  pub heap : List Value
  pub due : List (List ℕ)
  pub closed : Bool

-- the progress at the first line
abbrev pub opened : Typed → Reader
opened program = record { order = []; heap = opening_heap program; due = []; closed = false }

-- ---- calls

-- the calls of a thread, in order; none for an unknown thread
abbrev pub script_of : Typed → ℕ → List Scheduled
script_of program t = option_map_or (λ (thread : Thread). script_from t 0 thread.calls.items) (slice_get program.threads.items t) []

-- the number of calls of a thread
abbrev pub calls_by : ℕ → List ℕ → ℕ
calls_by t order = count_by (λ u. u == t) order

-- the next call of a thread, if it has one
abbrev pub next_call : Typed → List ℕ → ℕ → Option Scheduled
next_call program order t = slice_get (script_of program t) (calls_by t order)

-- a call from outside: its thread has a number of 32 bits and counts its calls from 0; its section exists, its
-- arguments fit, and its text writes it
pub record IsOpenCall (program : Typed) (order : List ℕ) (call : Scheduled) : Type 0 where
  pub thread : call.thread < 2 ^ 32
  pub counted : call.step ≡ calls_by call.thread order
  pub fits : CanCall program call.call.section call.call.arguments
  pub told : invocation_in program (invocation_text program call.call.section call.call.arguments) ≡ Some call.call
  -- the number of earlier calls has at most 63 bits
  pub few : length order < 2 ^ 63

-- the call may be its thread's next one: the next of its script; or, where anyone may call, any call from outside
abbrev pub IsNext : Callers → Typed → List ℕ → Scheduled → Type 0
IsNext Scripts program order call = next_call program order call.thread ≡ Some call
IsNext Anyone program order call = IsOpenCall program order call

-- a number that is greater than the position of each call of a thread
abbrev pub IsAfter : List ℕ → ℕ → ℕ → Type 0
IsAfter order t begun = (k : ℕ) → slice_get order k ≡ Some t → k < begun

-- after these calls, a call of the thread may have this begin
abbrev pub MayBegin : Format → List ℕ → ℕ → ℕ → Type 0
MayBegin One order t begun = ⊤
MayBegin Two order t begun = (begun ≤ length order) × IsAfter order t begun

-- up to its end, the line is that of a thread's next call
pub record IsNextCall (callers : Callers) (format : Format) (program : Typed) (order : List ℕ) (text : List ℕ) (call : Scheduled) (begun : ℕ) (end : List ℕ) : Type 0 where
  pub next : IsNext callers program order call
  pub begins : MayBegin format order call.thread begun
  pub told : text ≡ call_head format program call begun ++ end

-- ---- which line may come

-- no line is due, and the cells have not come
pub record IsAmongCalls (reader : Reader) : Type 0 where
  pub none_due : reader.due ≡ []
  pub still_open : reader.closed ≡ false

-- how a call ended, and the heap that it left
abbrev pub finished_as : Entry → List Value → Finished
finished_as entry heap = record { outcome = entry.outcome; prints = entry.prints; heap = heap }

-- the due line comes
pub record DueComes (before after : Reader) (text : List ℕ) : Type 0 where
  pub more : List (List ℕ)
  pub is_due : before.due ≡ text ∷ more
  pub leads : after ≡ record before { due = more }

-- the line of a thread's next call, which the turns settle, comes; then a line is due for each of its prints
pub record CallComes (turns : ℕ) (callers : Callers) (format : Format) (program : Typed) (before after : Reader) (text : List ℕ) : Type 0 where
  pub among : IsAmongCalls before
  pub entry : Entry
  pub heap : List Value
  pub next : IsNextCall callers format program before.order text (scheduled_in entry) entry.begun (outcome_text program.shape entry.outcome)
  pub settled : run_call program turns (scheduled_in entry).call before.heap ≡ Over (finished_as entry heap)
  pub leads : after ≡ record { order = before.order ++ entry.thread ∷ []; heap = heap; due = print_lines entry.prints; closed = false }

-- all calls of all scripts have come; where anyone may call, any number of calls is all
abbrev pub AllCalled : Callers → Typed → List ℕ → Type 0
AllCalled Scripts program order = (t : ℕ) → calls_by t order ≡ length (script_of program t)
AllCalled Anyone program order = ⊤

-- the line `cells` comes after all calls; then the lines of the cells and the last line are due
pub record CellsCome (callers : Callers) (program : Typed) (before after : Reader) (text : List ℕ) : Type 0 where
  pub among : IsAmongCalls before
  pub all : AllCalled callers program before.order
  pub is_cells : text ≡ codes "cells"
  pub leads : after ≡ record before { due = closing_lines program before.heap; closed = true }

-- a line may come, and leads to a reader
pub data Comes (turns : ℕ) (callers : Callers) (format : Format) (program : Typed) (before after : Reader) (text : List ℕ) : Type 0 where
  due : DueComes before after text → Comes turns callers format program before after text
  call : CallComes turns callers format program before after text → Comes turns callers format program before after text
  cells : CellsCome callers program before after text → Comes turns callers format program before after text

-- lines may come one after another
abbrev pub Come : ℕ → Callers → Format → Typed → Reader → List (List ℕ) → Reader → Type 0
Come turns callers format program before [] after = before ≡ after
Come turns callers format program before (text ∷ more) after =
    (middle : Reader) × Comes turns callers format program before middle text × Come turns callers format program middle more after

-- up to its end, the line is that of a thread's next call, which the turns don't settle
pub record IsUnsettled (turns : ℕ) (callers : Callers) (format : Format) (program : Typed) (reader : Reader) (text : List ℕ) : Type 0 where
  pub among : IsAmongCalls reader
  pub this : Scheduled
  pub begun : ℕ
  pub end : List ℕ
  pub next : IsNextCall callers format program reader.order text this begun end
  pub beyond : run_call program turns this.call reader.heap ≡ Beyond_turns
