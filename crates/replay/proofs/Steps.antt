-- One line further: the lines that are due, and the state of the reader.
use Rattle.std.proofs.Common.{◌≡◌, ◌∙◌, ◌<◌, ◌≤◌, ◌+◌, ℕ, ℤ, true, false, List, [], ◌∷◌, ◌++◌, length, drop, get_or}
use Rattle.std.proofs.Common.{arith, sym, ap, refl, inl, inr}
use Rattle.std.specs.Prelude.{codes}
use Rattle.std.specs.BTreeMap.{BTreeMap}
use Rattle.std.specs.Option.{option_map_or}
use Rattle.std.specs.Str.{bytes_eq}
use Rattle.std.proofs.lemmas.Bool.{cases_lt, false≢true}
use Rattle.std.proofs.lemmas.List.{drop_more, drop_all, get_or_default, length_push}
use Rattle.std.proofs.lemmas.Option.{slice_get_past}
use Rattle.std.proofs.lemmas.Slice.Eq.{bytes_eq-Decides}
use Rattle.core_lang.specs.declared.value.Value.{Value}
use Rattle.core_lang.specs.declared.typed.Cell.{Cell}
use Rattle.core_lang.specs.declared.typed.Thread.{Thread}
use Rattle.core_lang.specs.declared.typed.Typed.{Typed}
use Rattle.core_lang.specs.Serial.{run_call}
use Rattle.core_lang.specs.Typing.{HasCells}
use Rattle.core_lang.specs.Whole.{Over, Beyond_turns}
use Rattle.meaning.specs.declared.run.End.{End}
use Rattle.input_files.specs.declared.format.Format.{Format}
use Rattle.report.specs.declared.record.CallRef.{CallRef}
use Rattle.report.specs.Pieces.{outcome_text}
use Rattle.report.specs.Entry.{Entry, scheduled_called}
use Rattle.report.specs.History.{call_head, print_line, cell_line}
use Rattle.replay.specs.declared.progress.Progress.{Progress}
use Rattle.replay.specs.declared.progress.ThreadProgress.{ThreadProgress}
use Rattle.replay.specs.declared.progress.Stage.{Stage}
use Rattle.replay.specs.declared.progress.Stage.TheVariants.{Calls, Cells, Ended}
use Rattle.replay.specs.Readers.{Reader, Comes, call, cells, IsUnsettled, script_of, print_lines, cell_lines}
use Rattle.replay.specs.Readers.{AllCalled, closing_lines}
use Rattle.replay.specs.Verdicts.{IsOther}
use Rattle.replay.specs.declared.callers.Callers.{Callers}
use Rattle.replay.specs.declared.callers.Callers.TheVariants.{Scripts, Anyone}
use Rattle.replay.specs.Working.Reading.{IsAt, IsOnlyCall, IsHead, due_lines, has_closed, called_at, AreSeats, AreThreads}
use Rattle.replay.specs.Working.Reading.{SeatsAreAll, SeatsAreFull}
use Rattle.replay.specs.Working.Seats.{IsWithSeat}
use Rattle.replay.proofs.Heads.{head_not_cells}
use Rattle.replay.proofs.Scripts.{length-script_of}
use Rattle.replay.proofs.Seating.{seats_next}
use Rattle.replay.proofs.Candidates.{begins_so}
use Rattle.replay.proofs.Findings.{due_comes, other_end, cells_early}

-- ---- lines that are compared

pub reads_so : (text word : List ℕ) → bytes_eq text word ≡ true → text ≡ word
reads_so text word so = (bytes_eq-Decides text word).0 so

pub reads_otherwise : (text word : List ℕ) → bytes_eq text word ≡ false → text ≡ word → ⊥
reads_otherwise text word never is = false≢true (sym never ∙ (bytes_eq-Decides text word).1 is)

-- the line of a cell, appended to an empty text
pub cell_told : (program : Typed) (cell : Cell) (held heap : List Value) (number : ℕ) (d : Value) (old new : List ℕ) →
    held ≡ heap →
    number < length heap → new ≡ old ++ cell_line program cell (get_or held number d) → old ≡ [] →
    (value : Value) × (value ≡ get_or heap number value) × (new ≡ cell_line program cell value)
cell_told program cell held heap number d old new same less written empty = (
  get_or heap number d,
  get_or_default heap number d (get_or heap number d) less,
  written ∙ ap (λ (bytes : List ℕ). bytes ++ cell_line program cell (get_or held number d)) empty
      ∙ ap (λ values. cell_line program cell (get_or values number d)) same,
)

-- ---- what is due

module _ (program : Typed) (at : Progress) (reader : Reader) (is : IsAt program at reader) where
  pub at_stage : (stage : Stage) → at.stage ≡ stage → reader.due ≡ due_lines program stage at
  at_stage stage here = sym is.due ∙ ap (λ s. due_lines program s at) here

  pub print_due : (number : ℤ) → at.stage ≡ Calls → at.told < length at.prints.items →
      number ≡ get_or at.prints.items at.told number →
      reader.due ≡ print_line number ∷ print_lines (drop (at.told + 1) at.prints.items)
  print_due number stage less here =
      at_stage Calls stage ∙ ap print_lines (drop_more at.prints.items at.told number less)
      ∙ ap (λ n. print_line n ∷ print_lines (drop (at.told + 1) at.prints.items)) (sym here)

  pub none_due : at.stage ≡ Calls → at.told ≡ length at.prints.items → reader.due ≡ []
  none_due stage all = at_stage Calls stage ∙ ap print_lines (drop_all at.told at.prints.items (omega (arith, all)))

  pub closed_at : (stage : Stage) → at.stage ≡ stage → reader.closed ≡ has_closed stage
  closed_at stage here = sym is.closed ∙ ap has_closed here

  pub cell_due : (number : ℕ) (cell : Cell) (value : Value) → at.stage ≡ Cells number →
      number < length program.cells.items → HasCells program at.heap →
      cell ≡ get_or program.cells.items number cell → value ≡ get_or at.heap number value →
      reader.due ≡ cell_line program cell value ∷ (cell_lines program (drop (number + 1) program.cells.items) (drop (number + 1) at.heap) ++ codes "end" ∷ [])
  cell_due number cell value stage less long cell_is value_is =
      let first : drop number program.cells.items ≡ cell ∷ drop (number + 1) program.cells.items =
      drop_more program.cells.items number cell less ∙ ap (λ c. c ∷ drop (number + 1) program.cells.items) (sym cell_is) in
      let held : drop number at.heap ≡ value ∷ drop (number + 1) at.heap =
      drop_more at.heap number value (omega (arith, less, long)) ∙ ap (λ v. v ∷ drop (number + 1) at.heap) (sym value_is) in
      at_stage (Cells number) stage
      ∙ ap (λ cs. cell_lines program cs (drop number at.heap) ++ codes "end" ∷ []) first
      ∙ ap (λ vs. cell_lines program (cell ∷ drop (number + 1) program.cells.items) vs ++ codes "end" ∷ []) held

  pub last_due : (number : ℕ) → at.stage ≡ Cells number → length program.cells.items ≤ number →
      reader.due ≡ codes "end" ∷ []
  last_due number stage past =
      at_stage (Cells number) stage
      ∙ ap (λ cs. cell_lines program cs (drop number at.heap) ++ codes "end" ∷ []) (drop_all number program.cells.items past)

-- ---- all calls

-- if all calls came, the seats count all calls that must come
pub all_called : (callers : Callers) (program : Typed) (seats : BTreeMap ℕ ThreadProgress) (order : List ℕ) → AreSeats seats order →
    SeatsAreAll callers program seats → AllCalled callers program order
all_called Scripts program seats order are full = λ t. sym (are.called t) ∙ full t
all_called Anyone program seats order are full = tt

pub all_counted : (callers : Callers) (program : Typed) (seats : BTreeMap ℕ ThreadProgress) (order : List ℕ) → AreSeats seats order →
    AllCalled callers program order → SeatsAreAll callers program seats
all_counted Scripts program seats order are all = λ t. are.called t ∙ all t
all_counted Anyone program seats order are all = tt

-- ---- a line further

module _ (turns : ℕ) (callers : Callers) (format : Format) (program : Typed) where
  -- the line may come, and this is the progress after it
  abbrev pub Further : Reader → List ℕ → Progress → Type 0
  Further reader text after = (next : Reader) × Comes turns callers format program reader next text × IsAt program after next

  pub print_came : (at : Progress) (reader : Reader) (number : ℤ) (text : List ℕ) → IsAt program at reader →
      at.stage ≡ Calls →
      at.told < length at.prints.items → number ≡ get_or at.prints.items at.told number → text ≡ print_line number →
      Further reader text (record at { told = at.told + 1 })
  print_came at reader number text is stage less here same =
      let more = print_lines (drop (at.told + 1) at.prints.items) in (
        record reader { due = more },
        due_comes turns callers format program reader text more (print_due program at reader is number stage less here ∙ ap (λ x. x ∷ more) (sym same)),
        record {
          heap = is.heap;
          position = is.position;
          seats = is.seats;
          due = ap (λ s. due_lines program s (record at { told = at.told + 1 })) stage;
          closed = is.closed;
        },
      )

  pub cell_came : (at : Progress) (reader : Reader) (number : ℕ) (cell : Cell) (value : Value) (text : List ℕ) →
      IsAt program at reader →
      at.stage ≡ Cells number → number < length program.cells.items → HasCells program at.heap →
      cell ≡ get_or program.cells.items number cell → value ≡ get_or at.heap number value → text ≡ cell_line program cell value →
      Further reader text (record at { stage = Cells (number + 1) })
  cell_came at reader number cell value text is stage less long cell_is value_is same =
      let more = cell_lines program (drop (number + 1) program.cells.items) (drop (number + 1) at.heap) ++ codes "end" ∷ [] in (
        record reader { due = more },
        due_comes turns callers format program reader text more
            (cell_due program at reader is number cell value stage less long cell_is value_is ∙ ap (λ x. x ∷ more) (sym same)),
        record {
          heap = is.heap;
          position = is.position;
          seats = is.seats;
          due = refl;
          closed = sym (closed_at program at reader is (Cells number) stage);
        },
      )

  pub last_came : (at : Progress) (reader : Reader) (number : ℕ) (text : List ℕ) → IsAt program at reader →
      at.stage ≡ Cells number →
      length program.cells.items ≤ number → text ≡ codes "end" → Further reader text (record at { stage = Ended })
  last_came at reader number text is stage past same = (
    record reader { due = [] },
    due_comes turns callers format program reader text [] (last_due program at reader is number stage past ∙ ap (λ x. x ∷ []) (sym same)),
    record {
      heap = is.heap;
      position = is.position;
      seats = is.seats;
      due = refl;
      closed = sym (closed_at program at reader is (Cells number) stage);
    },
  )

  pub cells_came : (at : Progress) (reader : Reader) → IsAt program at reader → at.stage ≡ Calls →
      at.told ≡ length at.prints.items →
      SeatsAreAll callers program at.seats → Further reader (codes "cells") (record at { stage = Cells 0 })
  cells_came at reader is stage all full = (
    record reader { due = closing_lines program reader.heap; closed = true },
    cells (record {
      among = record { none_due = none_due program at reader is stage all; still_open = closed_at program at reader is Calls stage };
      all = all_called callers program at.seats reader.order is.seats full;
      is_cells = refl;
      leads = refl;
    }),
    record {
      heap = is.heap;
      position = is.position;
      seats = is.seats;
      due = ap (closing_lines program) is.heap;
      closed = refl;
    },
  )

  pub cells_otherwise : (at : Progress) (reader : Reader) → IsAt program at reader → at.stage ≡ Calls →
      at.told ≡ length at.prints.items →
      (SeatsAreAll callers program at.seats → ⊥) → IsOther turns callers format program reader (codes "cells")
  cells_otherwise at reader is stage all short =
      cells_early turns callers format program reader (none_due program at reader is stage all)
      (λ called. short (all_counted callers program at.seats reader.order is.seats called))

  -- ---- a call

  -- up to its end, the line is the line of the call
  pub head_told : (text written : List ℕ) (this : CallRef) → IsHead format program text written this →
      (rest : List ℕ) × (text ≡ call_head format program (scheduled_called this) this.begun ++ rest)
  head_told text written this head =
      let so = begins_so written text head.begins in
      (so.0, so.1 ∙ ap (λ h. h ++ so.0) head.is)

  pub call_beyond : (at : Progress) (reader : Reader) (text written : List ℕ) (this : CallRef) →
      IsAt program at reader → at.stage ≡ Calls →
      at.told ≡ length at.prints.items → IsOnlyCall callers format program at text this → IsHead format program text written this →
      run_call program turns (scheduled_called this).call at.heap ≡ Beyond_turns → IsUnsettled turns callers format program reader text
  call_beyond at reader text written this is stage all only head beyond =
      let told = head_told text written this head in
      record {
        among = record { none_due = none_due program at reader is stage all; still_open = closed_at program at reader is Calls stage };
        this = scheduled_called this;
        begun = this.begun;
        end = told.0;
        next = record { next = only.next reader told.0 is told.1; begins = only.begins reader is; told = told.1 };
        beyond = ap (run_call program turns (scheduled_called this).call) (sym is.heap) ∙ beyond;
      }

  pub call_otherwise : (at : Progress) (reader : Reader) (text written : List ℕ) (this : CallRef) (end : End) (heap : List Value) →
      IsAt program at reader → at.stage ≡ Calls → at.told ≡ length at.prints.items → IsOnlyCall callers format program at text this →
      IsHead format program text written this →
      run_call program turns (scheduled_called this).call at.heap ≡ Over (record { outcome = end.outcome; prints = end.prints.items; heap = heap }) →
      (text ≡ call_head format program (scheduled_called this) this.begun ++ outcome_text program.shape end.outcome → ⊥) →
      IsOther turns callers format program reader text
  call_otherwise at reader text written this end heap is stage all only head over never =
      let told = head_told text written this head in
      other_end turns callers format program reader text (scheduled_called this) (call_head format program (scheduled_called this) this.begun)
      (record { outcome = end.outcome; prints = end.prints.items; heap = heap }) (none_due program at reader is stage all)
      (λ cells_are. head_not_cells format program (scheduled_called this) this.begun told.0 (sym cells_are ∙ told.1))
      (λ other begun tail next. only.only reader other begun tail is next)
      (ap (run_call program turns (scheduled_called this).call) (sym is.heap) ∙ over) never

  -- the line of the only possible call may come, with the end of that call
  pub call_comes : (at : Progress) (reader : Reader) (line text : List ℕ) (this : CallRef) (end : End) (heap : List Value) →
      IsAt program at reader → at.stage ≡ Calls → at.told ≡ length at.prints.items → IsOnlyCall callers format program at line this →
      (rest : List ℕ) → line ≡ call_head format program (scheduled_called this) this.begun ++ rest →
      run_call program turns (scheduled_called this).call at.heap ≡ Over (record { outcome = end.outcome; prints = end.prints.items; heap = heap }) →
      text ≡ call_head format program (scheduled_called this) this.begun ++ outcome_text program.shape end.outcome →
      Comes turns callers format program reader
      (record { order = reader.order ++ this.thread ∷ []; heap = heap; due = print_lines end.prints.items; closed = false }) text
  call_comes at reader line text this end heap is stage all only rest head over told =
      let entry : Entry = record {
        thread = this.thread;
        step = this.step;
        begun = this.begun;
        section = this.section;
        arguments = this.arguments.now;
        outcome = end.outcome;
        prints = end.prints.items;
      } in
      call (record {
        among = record { none_due = none_due program at reader is stage all; still_open = closed_at program at reader is Calls stage };
        entry = entry;
        heap = heap;
        next = record { next = only.next reader rest is head; begins = only.begins reader is; told = told };
        settled = ap (run_call program turns (scheduled_called this).call) (sym is.heap) ∙ over;
        leads = refl;
      })

  pub call_came : (at : Progress) (reader : Reader) (text : List ℕ) (this : CallRef) (end : End) (after : Progress) →
      IsAt program at reader → at.stage ≡ Calls → at.told ≡ length at.prints.items → IsOnlyCall callers format program at text this →
      run_call program turns (scheduled_called this).call at.heap ≡ Over (record { outcome = end.outcome; prints = end.prints.items; heap = after.heap }) →
      text ≡ call_head format program (scheduled_called this) this.begun ++ outcome_text program.shape end.outcome →
      IsWithSeat this.thread (record { called = this.step + 1; least = at.position + 1 }) at.seats after.seats →
      after.position ≡ at.position + 1 → after.prints.items ≡ end.prints.items → after.told ≡ 0 → after.stage ≡ Calls →
      Further reader text after
  call_came at reader text this end after is stage all only over told seats position prints none same_stage =
      let counted = only.counted in
      let long = is.position in
      let pushed = length_push reader.order this.thread in (
        record { order = reader.order ++ this.thread ∷ []; heap = after.heap; due = print_lines end.prints.items; closed = false },
        call_comes at reader text text this end after.heap is stage all only _ told over told,
        record {
          heap = refl;
          position = omega (arith, position, long, pushed);
          seats = seats_next at.seats after.seats reader.order this.thread (record { called = this.step + 1; least = at.position + 1 }) is.seats seats
              (omega (arith, counted)) (omega (arith, long));
          due = ap (λ s. due_lines program s after) same_stage ∙ ap (λ n. print_lines (drop n after.prints.items)) none ∙ ap print_lines prints;
          closed = ap has_closed same_stage;
        },
      )

-- ---- scripts

-- the seats of all threads are full, if those of the program's threads are
pub full_seats : (program : Typed) (seats : BTreeMap ℕ ThreadProgress) → AreThreads Scripts program seats →
    ((t : ℕ) → t < length program.threads.items → called_at seats t ≡ length (script_of program t)) → SeatsAreFull program seats
full_seats program seats none full t = elim (cases_lt t (length program.threads.items)) [
  | inl less ↦ full t less
  | inr past ↦
      let no_script : length (script_of program t) ≡ 0 =
      length-script_of program t ∙ ap (λ found. option_map_or (λ (x : Thread). length x.calls.items) found 0) (slice_get_past program.threads.items t past) in
      none t past ∙ sym no_script
]
