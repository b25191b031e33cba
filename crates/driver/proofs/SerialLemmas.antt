-- The text of a run is the text of its serial meaning.
use Rattle.std.proofs.Common.{◌≡◌, ◌∙◌, ℕ, Bool, List, [], ◌∷◌, ◌++◌, ap, sym, subst, refl, append-nil}
use Rattle.std.proofs.lemmas.List.{map-append, append_cancel_right}
use Rattle.core_lang.specs.declared.value.Value.{Value}
use Rattle.core_lang.specs.declared.typed.Typed.{Typed}
use Rattle.core_lang.specs.Laws.{SettledAreSerial}
use Rattle.core_lang.specs.Serial.{Scheduled, Ended, all_calls, opening_heap, serial_run, Serial, SerialFromOpening}
use Rattle.report.specs.History.{unsettled_of}
use Rattle.driver.specs.declared.status.Status.{Status}
use Rattle.driver.specs.declared.status.Status.TheVariants.{Done, Unsettled}
use Rattle.driver.specs.Working.Running.{StopsAt, progress_of}
use Rattle.driver.specs.Serial.{calls_of, entry, entries, serial_text, IsHistory, StopsAtCall}

-- the calls before those that the turns don't settle are run serially
pub settled_ahead : SettledAreSerial → (turns : ℕ) (program : Typed) (ss before after : List Scheduled) →
    ss ≡ before ++ after → (progress_of turns program ss).unsettled ≡ calls_of after →
    SerialFromOpening program (calls_of before) (progress_of turns program ss).ends (progress_of turns program ss).heap
settled_ahead law turns program ss before after parts left =
    let settled = (law program turns (opening_heap program) (calls_of ss)).0 in
    let split : calls_of ss ≡ calls_of before ++ calls_of after =
    ap calls_of parts ∙ map-append (λ (s : Scheduled). s.call) before after in
    let same : settled.0 ≡ calls_of before =
    append_cancel_right settled.0 (calls_of before) (calls_of after) (ap (λ xs. settled.0 ++ xs) (sym left) ∙ sym settled.1 ∙ split) in
    subst (λ xs. Serial program (opening_heap program) xs (progress_of turns program ss).ends (progress_of turns program ss).heap) same settled.2

-- the number of ends is the number of calls that are run
pub entries_ahead : (program : Typed) (heap last : List Value) (before after : List Scheduled) (ends : List Ended) →
    Serial program heap (calls_of before) ends last → entries (before ++ after) ends ≡ entries before ends
entries_ahead program heap last [] [] [] ran = refl
entries_ahead program heap last [] (s ∷ after) [] ran = refl
entries_ahead program heap last [] after (e ∷ ends) ran = absurd ran
entries_ahead program heap last (s ∷ before) after [] ran = absurd ran
entries_ahead program heap last (s ∷ before) after (e ∷ ends) ran =
    ap (λ es. entry s e ∷ es) (entries_ahead program ran.0.heap last before after ends ran.3)

-- the turns settle all calls
pub history_told : SettledAreSerial → (turns : ℕ) (changed : Bool) (program : Typed) (status : Status) (out err : List ℕ) →
    status ≡ Done →
    (serial_run program turns).unsettled ≡ [] →
    out ≡ serial_text changed program (entries (all_calls program) (serial_run program turns).ends) (serial_run program turns).heap → err ≡ [] →
    IsHistory turns changed program status out err
history_told law turns changed program status out err done settled is none =
    record {
      settled = settled;
      serial = settled_ahead law turns program (all_calls program) (all_calls program) [] (sym (append-nil (all_calls program))) settled;
      ended = done;
      written = is;
      told = none;
    }

-- the turns settle the calls up to one
pub stop_told : SettledAreSerial →
    (turns : ℕ) (program : Typed) (thread step : ℕ) (status : Status) (out err : List ℕ) →
    status ≡ Unsettled → StopsAt turns program (all_calls program) (thread, step) →
    out ≡ unsettled_of program (entries (all_calls program) (serial_run program turns).ends) thread step → err ≡ [] →
    StopsAtCall turns program status out err
stop_told law turns program thread step status out err ended stops is none =
    let ran = settled_ahead law turns program (all_calls program) stops.before (stops.this ∷ stops.after) stops.parts stops.unsettled in
    let ends = (serial_run program turns).ends in
    let ahead : entries (all_calls program) ends ≡ entries stops.before ends =
    ap (λ ss. entries ss ends) stops.parts ∙ entries_ahead program (opening_heap program) (serial_run program turns).heap stops.before (stops.this ∷ stops.after) ends ran in
    record {
      before = stops.before;
      this = stops.this;
      after = stops.after;
      parts = stops.parts;
      unsettled = stops.unsettled;
      serial = ran;
      beyond = stops.beyond;
      ended = ended;
      written = is ∙ ap (λ es. unsettled_of program es thread step) ahead ∙ ap (λ (p : ℕ × ℕ). unsettled_of program (entries stops.before ends) p.0 p.1) stops.here;
      told = none;
    }
