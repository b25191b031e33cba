-- The serial run of a program is a history, and histories with one order of calls are equal.
use Rattle.std.proofs.Common.{◌≡◌, ◌∙◌, ◌<◌, ℕ, ◌+◌, zero, suc, Bool, List, [], ◌∷◌, ◌++◌, map, slice_get, Option}
use Rattle.std.proofs.Common.{arith, sym, ap, refl, subst, append-nil, inl, inr}
use Rattle.std.specs.Prelude.{◌==◌, filter}
use Rattle.std.specs.Option.{option_map_or}
use Rattle.std.proofs.lemmas.Bool.{cases_eq, eq-eqb, ne_eqb}
use Rattle.std.proofs.lemmas.List.Elements.{filter-append}
use Rattle.core_lang.specs.declared.typed.Call.{Call}
use Rattle.core_lang.specs.declared.typed.Thread.{Thread}
use Rattle.core_lang.specs.declared.typed.Typed.{Typed}
use Rattle.core_lang.specs.Serial.{Scheduled, Invocation, Ended, invocation, script_from, scripts_from, all_calls}
use Rattle.core_lang.specs.Serial.{opening_heap, serial_with, SerialFromOpening}
use Rattle.core_lang.specs.Laws.{HaveAtMostOneSerial}
use Rattle.input_files.specs.declared.format.Format.TheVariants.{One}
use Rattle.report.specs.Entry.{Entry, scheduled_in}
use Rattle.replay.specs.declared.callers.Callers.TheVariants.{Scripts}
use Rattle.replay.specs.Readers.{script_of}
use Rattle.replay.specs.Working.Histories.{invocation_in, ended_in, of_thread, history_lines}
use Rattle.replay.specs.Working.Laws.{SerialIsSame, OneOrderOneHistory}
use Rattle.replay.proofs.HistoryLemmas.{Settled, serial_settled, settled_same}

-- ---- the calls of a thread among all

abbrev by : ℕ → Scheduled → Bool
by t s = s.thread == t

own_script : (t step : ℕ) (calls : List Call) → filter (by t) (script_from t step calls) ≡ script_from t step calls
own_script t step [] = refl
own_script t step (c ∷ calls) =
    let test = eq-eqb t t refl in
    rw test (ap (λ xs. record { thread = t; step = step; call = invocation c } ∷ xs) (own_script t (step + 1) calls))

other_script : (t u step : ℕ) (calls : List Call) → (u ≡ t → ⊥) → filter (by t) (script_from u step calls) ≡ []
other_script t u step [] apart = refl
other_script t u step (c ∷ calls) apart =
    let test = ne_eqb u t apart in
    rw test (other_script t u (step + 1) calls apart)

-- a thread has no calls in the scripts of later threads
later_scripts : (threads : List Thread) (t u : ℕ) → t < u → filter (by t) (scripts_from u threads) ≡ []
later_scripts [] t u later = refl
later_scripts (x ∷ threads) t u later =
    filter-append (by t) (script_from u 0 x.calls.items) (scripts_from (u + 1) threads)
    ∙ ap (λ xs. xs ++ filter (by t) (scripts_from (u + 1) threads)) (other_script t u 0 x.calls.items (λ e. absurd (omega arith)))
    ∙ later_scripts threads t (u + 1) (omega arith)

abbrev script_at : ℕ → Option Thread → List Scheduled
script_at t found = option_map_or (λ (x : Thread). script_from t 0 x.calls.items) found []

thread_scripts : (threads : List Thread) (u k : ℕ) →
    filter (by (u + k)) (scripts_from u threads) ≡ script_at (u + k) (slice_get threads k)
thread_scripts [] u k = refl
thread_scripts (x ∷ threads) u zero =
    let here : u ≡ u + 0 = omega arith in
    filter-append (by (u + 0)) (script_from u 0 x.calls.items) (scripts_from (u + 1) threads)
    ∙ ap (λ xs. xs ++ filter (by (u + 0)) (scripts_from (u + 1) threads))
    (subst (λ t. filter (by t) (script_from u 0 x.calls.items) ≡ script_from t 0 x.calls.items) here (own_script u 0 x.calls.items))
    ∙ ap (λ xs. script_from (u + 0) 0 x.calls.items ++ xs) (later_scripts threads (u + 0) (u + 1) (omega arith))
    ∙ append-nil (script_from (u + 0) 0 x.calls.items)
thread_scripts (x ∷ threads) u (suc k) =
    let here : (u + 1) + k ≡ u + suc k = omega arith in
    filter-append (by (u + suc k)) (script_from u 0 x.calls.items) (scripts_from (u + 1) threads)
    ∙ ap (λ xs. xs ++ filter (by (u + suc k)) (scripts_from (u + 1) threads)) (other_script (u + suc k) u 0 x.calls.items (λ e. absurd (omega arith)))
    ∙ subst (λ t. filter (by t) (scripts_from (u + 1) threads) ≡ script_at t (slice_get threads k)) here (thread_scripts threads (u + 1) k)

of_all : (program : Typed) (t : ℕ) → filter (by t) (all_calls program) ≡ script_of program t
of_all program t =
    let here : 0 + t ≡ t = omega arith in
    subst (λ u. filter (by u) (all_calls program) ≡ script_at u (slice_get program.threads.items t)) here (thread_scripts program.threads.items 0 t)

scheduled_filter : (t : ℕ) (es : List Entry) → map scheduled_in (of_thread t es) ≡ filter (by t) (map scheduled_in es)
scheduled_filter t [] = refl
scheduled_filter t (e ∷ es) = elim (cases_eq e.thread t) [
  | inl same ↦ let test = eq-eqb e.thread t same in rw test (ap (λ xs. scheduled_in e ∷ xs) (scheduled_filter t es))
  | inr apart ↦ let test = ne_eqb e.thread t apart in rw test (scheduled_filter t es)
]

-- ---- the serial run

called : (es : List Entry) → map (λ (s : Scheduled). s.call) (map scheduled_in es) ≡ map invocation_in es
called [] = refl
called (e ∷ es) = ap (λ xs. invocation_in e ∷ xs) (called es)

pub serial_same : SerialIsSame
serial_same turns program es none calls ends =
    let invoked : map (λ (s : Scheduled). s.call) (all_calls program) ≡ map invocation_in es =
    ap (map (λ (s : Scheduled). s.call)) (sym calls) ∙ called es in
    let run = λ (xs : List Invocation). serial_with program turns (opening_heap program) xs in
    let settled = serial_settled turns program es (opening_heap program)
    (subst (λ xs. (run xs).unsettled ≡ []) invoked none) (subst (λ xs. map ended_in es ≡ (run xs).ends) invoked ends) in
    settled_same turns Scripts One program es (run (map (λ (s : Scheduled). s.call) (all_calls program))).heap
    (λ t. scheduled_filter t es ∙ ap (filter (by t)) calls ∙ of_all program t) (λ k e is. tt)
    (subst (λ xs. Settled turns program (opening_heap program) es (run xs).heap) (sym invoked) settled)

-- ---- one order

-- entries whose calls, begins and ends are alike
entries_alike : (xs ys : List Entry) → map scheduled_in xs ≡ map scheduled_in ys →
    map (λ (e : Entry). e.begun) xs ≡ map (λ (e : Entry). e.begun) ys → map ended_in xs ≡ map ended_in ys → xs ≡ ys
entries_alike [] [] calls begins ends = refl
entries_alike [] (y ∷ ys) calls begins ends = absurd (cc)
entries_alike (x ∷ xs) [] calls begins ends = absurd (cc)
entries_alike (x ∷ xs) (y ∷ ys) calls begins ends =
    let call : scheduled_in x ≡ scheduled_in y = cc in
    let begun : x.begun ≡ y.begun = cc in
    let ended : ended_in x ≡ ended_in y = cc in
    let first : x ≡ y =
    ap (λ (s : Scheduled). record {
      thread = s.thread;
      step = s.step;
      begun = x.begun;
      section = s.call.section;
      arguments = s.call.arguments;
      outcome = x.outcome;
      prints = x.prints;
    }) call
    ∙ ap (λ b. record y { begun = b; outcome = x.outcome; prints = x.prints }) begun
    ∙ ap (λ (e : Ended). record y { outcome = e.outcome; prints = e.prints }) ended in
    let rest = entries_alike xs ys (cc) (cc) (cc) in
    ap (λ e. e ∷ xs) first ∙ ap (λ es. y ∷ es) rest

pub one_history : HaveAtMostOneSerial → OneOrderOneHistory
one_history law callers format program xs ys heap other lines more p q calls begins =
    let invoked : map invocation_in ys ≡ map invocation_in xs =
    sym (called ys) ∙ ap (map (λ (s : Scheduled). s.call)) (sym calls) ∙ called xs in
    let serial : SerialFromOpening program (map invocation_in xs) (map ended_in ys) other =
    subst (λ cs. SerialFromOpening program cs (map ended_in ys) other) invoked q.serial in
    let one = law program (opening_heap program) heap other (map invocation_in xs) (map ended_in xs) (map ended_in ys) p.serial serial in
    let same = entries_alike xs ys calls begins one.0 in
    p.told ∙ ap (λ es. history_lines format program es heap) same ∙ ap (history_lines format program ys) one.1 ∙ sym q.told
