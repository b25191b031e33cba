-- The lines that may come are those of a history, and conversely.
use Rattle.std.proofs.Common.{◌≡◌, ◌∙◌, ◌≤◌, ℕ, ◌+◌, true, false, List, [], ◌∷◌, ◌++◌, map, arith, sym, ap, refl}
use Rattle.std.proofs.Common.{subst, append_assoc, append-nil}
use Rattle.std.specs.Prelude.{codes}
use Rattle.std.specs.List.{flat_map}
use Rattle.core_lang.specs.declared.value.Value.{Value}
use Rattle.core_lang.specs.declared.typed.Typed.{Typed}
use Rattle.core_lang.specs.Whole.{Run, Over, Beyond_turns, Gone_astray}
use Rattle.core_lang.specs.Serial.{Ended, Serial, end_of, opening_heap, run_section, run_call, go_on, serial_with}
use Rattle.core_lang.specs.Laws.{MoreTurnsChangeNothing, OverIsWhole}
use Rattle.input_files.specs.declared.format.Format.{Format}
use Rattle.report.specs.Entry.{Entry}
use Rattle.report.specs.History.{call_line}
use Rattle.replay.specs.Readers.{Reader, opened, due, call, cells, Come, finished_as, print_lines, closing_lines}
use Rattle.replay.specs.Verdicts.{HasEnded, IsSame}
use Rattle.replay.specs.declared.callers.Callers.{Callers}
use Rattle.replay.specs.Working.Histories.{invocation_in, ended_in, entry_lines, history_lines, AreCalls}
use Rattle.replay.specs.Working.Histories.{BeginAsTheyMay}
use Rattle.replay.specs.Working.Laws.{SameIsHistory, HistoryIsSame}
use Rattle.replay.proofs.Following.{Follow, follow_calls, follow_begins, calls_follow}

-- ---- runs

module _ (turns : ℕ) (program : Typed) where
  -- the turns settle the calls, run one after another from `heap`, and the heap after them is `last`
  abbrev pub Settled : List Value → List Entry → List Value → Type 0
  Settled heap [] last = heap ≡ last
  Settled heap (e ∷ es) last =
      (next : List Value) × (run_call program turns (invocation_in e) heap ≡ Over (finished_as e next)) × Settled next es last

  settled_serial : OverIsWhole → (heap last : List Value) (es : List Entry) → Settled heap es last →
      Serial program heap (map invocation_in es) (map ended_in es) last
  settled_serial law heap last [] settled = settled
  settled_serial law heap last (e ∷ es) settled = (
    finished_as e settled.0,
    law program turns (invocation_in e) heap (finished_as e settled.0) settled.1,
    refl,
    settled_serial law settled.0 last es settled.2,
  )

  with_run : (e : Entry) (es : List Entry) (heap : List Value) (run : Run) →
      run_call program turns (invocation_in e) heap ≡ run →
      ((next : List Value) → (serial_with program turns next (map invocation_in es)).unsettled ≡ [] →
      map ended_in es ≡ (serial_with program turns next (map invocation_in es)).ends →
      Settled next es (serial_with program turns next (map invocation_in es)).heap) →
      let p = go_on run heap (invocation_in e ∷ map invocation_in es) (λ next. serial_with program turns next (map invocation_in es)) in
      p.unsettled ≡ [] → ended_in e ∷ map ended_in es ≡ p.ends → Settled heap (e ∷ es) p.heap
  with_run e es heap (Over finished) is rest none ends =
      let first : ended_in e ≡ end_of finished = cc in
      let others : map ended_in es ≡ (serial_with program turns finished.heap (map invocation_in es)).ends = cc in
      let same : finished ≡ finished_as e finished.heap =
      ap (λ (x : Ended). record { outcome = x.outcome; prints = x.prints; heap = finished.heap }) (sym first) in
      (finished.heap, is ∙ ap Over same, rest finished.heap none others)
  with_run e es heap Beyond_turns is rest none ends = absurd (cc)
  with_run e es heap Gone_astray is rest none ends = absurd (cc)

  -- calls that a serial run settles are settled one after another
  pub serial_settled : (es : List Entry) (heap : List Value) →
      (serial_with program turns heap (map invocation_in es)).unsettled ≡ [] →
      map ended_in es ≡ (serial_with program turns heap (map invocation_in es)).ends →
      Settled heap es (serial_with program turns heap (map invocation_in es)).heap
  serial_settled [] heap none ends = refl
  serial_settled (e ∷ es) heap none ends =
      with_run e es heap (run_call program turns (invocation_in e) heap) refl (λ next. serial_settled es next) none ends

-- if the turns are enough, calls that are run whole are settled
enough_turns : MoreTurnsChangeNothing → (program : Typed) (heap last : List Value) (es : List Entry) →
    Serial program heap (map invocation_in es) (map ended_in es) last →
    (enough : ℕ) × ((turns : ℕ) → enough ≤ turns → Settled turns program heap es last)
enough_turns law program heap last [] serial = (0, λ turns most. serial)
enough_turns law program heap last (e ∷ es) serial =
    let finished = serial.0 in
    let whole = serial.1 in
    let section = whole.0 in
    let n = whole.2.0 in
    let rest = enough_turns law program finished.heap last es serial.3 in
    let same : finished ≡ finished_as e finished.heap =
    ap (λ (x : Ended). record { outcome = x.outcome; prints = x.prints; heap = finished.heap }) serial.2 in (
      n + rest.0,
      λ turns most. (
        finished.heap,
        ap (λ s. run_section s program turns e.arguments heap) whole.1
            ∙ law section program.shape n turns e.arguments heap finished (omega (arith, most)) whole.2.1 ∙ ap Over same,
        rest.1 turns (omega (arith, most)),
      ),
    )

-- ---- lines

module _ (turns : ℕ) (callers : Callers) (format : Format) (program : Typed) where
  -- the remaining lines
  abbrev lines_left : List Entry → List Value → List (List ℕ)
  lines_left es last = flat_map (entry_lines format program) es ++ codes "cells" ∷ closing_lines program last

  -- the remaining calls, if these lines come
  record AreLeft (reader : Reader) (lines : List (List ℕ)) : Type 0 where
    entries : List Entry
    last : List Value
    settled : Settled turns program reader.heap entries last
    follow : Follow callers format program reader.order entries
    told : lines ≡ reader.due ++ lines_left entries last

  closed_lines : (lines : List (List ℕ)) (reader final : Reader) → reader.closed ≡ true →
      Come turns callers format program reader lines final →
      HasEnded final → lines ≡ reader.due
  closed_lines [] reader final closed came ended = sym (ap (λ (r : Reader). r.due) came ∙ ended.none_due)
  closed_lines (text ∷ more) reader final closed came ended = elim came.1 [
    | due d ↦
        let rest = closed_lines more came.0 final (ap (λ (r : Reader). r.closed) d.leads ∙ closed) came.2 ended in
        ap (λ xs. text ∷ xs) (rest ∙ ap (λ (r : Reader). r.due) d.leads) ∙ sym d.is_due
    | call c ↦ absurd (let e = sym closed ∙ c.among.still_open in cc)
    | cells c ↦ absurd (let e = sym closed ∙ c.among.still_open in cc)
  ]

  open_lines : (lines : List (List ℕ)) (reader final : Reader) → reader.closed ≡ false →
      Come turns callers format program reader lines final →
      HasEnded final → AreLeft reader lines
  open_lines [] reader final unclosed came ended =
      absurd (let e = sym unclosed ∙ ap (λ (r : Reader). r.closed) came ∙ ended.closed in cc)
  open_lines (text ∷ more) reader final unclosed came ended = elim came.1 [
    | due d ↦
        let next : Reader = record reader { due = d.more } in
        let left = open_lines more next final unclosed (subst (λ r. Come turns callers format program r more final) d.leads came.2) ended in
        record {
          entries = left.entries;
          last = left.last;
          settled = left.settled;
          follow = left.follow;
          told = ap (λ xs. text ∷ xs) left.told ∙ ap (λ xs. xs ++ lines_left left.entries left.last) (sym d.is_due);
        }
    | call c ↦
        let next : Reader = record { order = reader.order ++ c.entry.thread ∷ []; heap = c.heap; due = print_lines c.entry.prints; closed = false } in
        let left = open_lines more next final refl (subst (λ r. Come turns callers format program r more final) c.leads came.2) ended in
        record {
          entries = c.entry ∷ left.entries;
          last = left.last;
          settled = (c.heap, c.settled, left.settled);
          follow = (c.next.next, c.next.begins, left.follow);
          told = ap (λ x. x ∷ more) c.next.told ∙ ap (λ xs. call_line format program c.entry ∷ xs) (left.told ∙ sym (append_assoc (print_lines c.entry.prints) (flat_map (entry_lines format program) left.entries) (codes "cells" ∷ closing_lines program left.last)))
              ∙ ap (λ xs. xs ++ lines_left (c.entry ∷ left.entries) left.last) (sym c.among.none_due);
        }
    | cells c ↦
        let next : Reader = record reader { due = closing_lines program reader.heap; closed = true } in
        let rest = closed_lines more next final refl (subst (λ r. Come turns callers format program r more final) c.leads came.2) ended in
        record {
          entries = [];
          last = reader.heap;
          settled = refl;
          follow = c.all;
          told = ap (λ x. x ∷ more) c.is_cells ∙ ap (λ xs. codes "cells" ∷ xs) rest
              ∙ ap (λ xs. xs ++ lines_left [] reader.heap) (sym c.among.none_due);
        }
  ]

  -- ---- the converse

  -- lines that are due may come
  due_come : (dues more : List (List ℕ)) (reader final : Reader) → reader.due ≡ dues →
      Come turns callers format program (record reader { due = [] }) more final →
      Come turns callers format program reader (dues ++ more) final
  due_come [] more reader final is came =
      let same : record reader { due = [] } ≡ reader = ap (λ d. record reader { due = d }) (sym is) in
      subst (λ r. Come turns callers format program r more final) same came
  due_come (text ∷ dues) more reader final is came = (
    record reader { due = dues },
    due (record { more = dues; is_due = is; leads = refl }),
    due_come dues more (record reader { due = dues }) final refl came,
  )

  record ComeToEnd (reader : Reader) (lines : List (List ℕ)) : Type 0 where
    final : Reader
    came : Come turns callers format program reader lines final
    ended : HasEnded final

  come_to_end : (es : List Entry) (order : List ℕ) (heap last : List Value) → Follow callers format program order es →
      Settled turns program heap es last →
      ComeToEnd (record { order = order; heap = heap; due = []; closed = false }) (lines_left es last)
  come_to_end [] order heap last follow settled =
      let before : Reader = record { order = order; heap = heap; due = []; closed = false } in
      let middle : Reader = record { order = order; heap = heap; due = closing_lines program heap; closed = true } in
      let final : Reader = record { order = order; heap = heap; due = []; closed = true } in
      let rest : Come turns callers format program middle (closing_lines program heap) final =
      subst (λ xs. Come turns callers format program middle xs final) (append-nil (closing_lines program heap))
      (due_come (closing_lines program heap) [] middle final refl refl) in
      subst (λ l. ComeToEnd before (codes "cells" ∷ closing_lines program l)) settled
      (record {
        final = final;
        came = (middle, cells (record { among = record { none_due = refl; still_open = refl }; all = follow; is_cells = refl; leads = refl }), rest);
        ended = record { none_due = refl; closed = refl };
      })
  come_to_end (e ∷ es) order heap last follow settled =
      let middle : Reader = record { order = order ++ e.thread ∷ []; heap = settled.0; due = print_lines e.prints; closed = false } in
      let rest = come_to_end es (order ++ e.thread ∷ []) settled.0 last follow.2 settled.2 in
      let prints = due_come (print_lines e.prints) (lines_left es last) middle rest.final refl rest.came in
      record {
        final = rest.final;
        came = (
          middle,
          call (record {
            among = record { none_due = refl; still_open = refl };
            entry = e;
            heap = settled.0;
            next = record { next = follow.0; begins = follow.1; told = refl };
            settled = settled.1;
            leads = refl;
          }),
          subst (λ xs. Come turns callers format program middle xs rest.final) (sym (append_assoc (print_lines e.prints) (flat_map (entry_lines format program) es) (codes "cells" ∷ closing_lines program last))) prints,
        );
        ended = rest.ended;
      }

  -- the verdict `same` holds for the lines of calls that follow one another and are settled
  pub settled_same : (es : List Entry) (last : List Value) → AreCalls callers program es → BeginAsTheyMay format es →
      Settled turns program (opening_heap program) es last → IsSame turns callers format program (history_lines format program es last)
  settled_same es last calls begins settled =
      let end = come_to_end es [] (opening_heap program) last (calls_follow callers format program es calls begins) settled in
      record { reader = end.final; came = end.came; ended = end.ended }

-- ---- the laws

pub same_history : OverIsWhole → SameIsHistory
same_history law turns callers format program lines same =
    let left = open_lines turns callers format program lines (opened program) same.reader refl same.came same.ended in (
      left.entries,
      left.last,
      record {
        calls = follow_calls callers format program left.entries left.follow;
        begins = follow_begins callers format program left.entries left.follow;
        serial = settled_serial turns program law (opening_heap program) left.last left.entries left.settled;
        told = left.told;
      },
    )

pub history_same : MoreTurnsChangeNothing → HistoryIsSame
history_same law callers format program entries heap lines history =
    let enough = enough_turns law program (opening_heap program) heap entries history.serial in (
      enough.0,
      λ turns most. subst (IsSame turns callers format program) (sym history.told)
          (settled_same turns callers format program entries heap history.calls history.begins (enough.1 turns most)),
    )
