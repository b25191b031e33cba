-- How far the calls of a program get, one call at a time.
use Rattle.std.proofs.Common.{◌≡◌, ◌∙◌, ℕ, List, [], ◌∷◌, ◌++◌, ap, sym, refl, append_assoc, append-nil}
use Rattle.core_lang.specs.declared.value.Value.{Value}
use Rattle.core_lang.specs.declared.typed.Typed.{Typed}
use Rattle.core_lang.specs.Serial.{Scheduled, end_of, opening_heap, run_call, serial_with}
use Rattle.core_lang.specs.Whole.{Finished, Over, Beyond_turns}
use Rattle.report.specs.Entry.{Entry}
use Rattle.driver.specs.Working.Running.{StopsAt, progress_of}
use Rattle.driver.specs.Serial.{calls_of, entry, entries}

-- the entries so far, and those of the remaining calls run from this heap, are those of all calls
pub record GoesOn (turns : ℕ) (program : Typed) (all : List Scheduled) (es : List Entry) (heap : List Value) (ss : List Scheduled) : Type 0 where
  pub records : es ++ entries ss (serial_with program turns heap (calls_of ss)).ends ≡ entries all (progress_of turns program all).ends
  pub heap_is : (serial_with program turns heap (calls_of ss)).heap ≡ (progress_of turns program all).heap
  pub left : (serial_with program turns heap (calls_of ss)).unsettled ≡ (progress_of turns program all).unsettled

-- the claim before the first call
pub goes_start : (turns : ℕ) (program : Typed) (all : List Scheduled) (es : List Entry) (heap : List Value) (ss : List Scheduled) →
    es ≡ [] → heap ≡ opening_heap program → ss ≡ all → GoesOn turns program all es heap ss
goes_start turns program all es heap ss none opens whole = rw (none, opens, whole) (record { records = refl; heap_is = refl; left = refl })

-- a call that ends adds one entry
pub goes_further : (turns : ℕ) (program : Typed) (all : List Scheduled) (es : List Entry) (heap : List Value) (s : Scheduled) (ss : List Scheduled) (finished : Finished) →
    GoesOn turns program all es heap (s ∷ ss) → run_call program turns s.call heap ≡ Over finished →
    GoesOn turns program all (es ++ entry s (end_of finished) ∷ []) finished.heap ss
goes_further turns program all es heap s ss finished goes over =
    let next = serial_with program turns finished.heap (calls_of ss) in
    let records : es ++ entry s (end_of finished) ∷ entries ss next.ends ≡ entries all (progress_of turns program all).ends = rw over at goes.records in
    record {
      records = append_assoc es (entry s (end_of finished) ∷ []) (entries ss next.ends) ∙ records;
      heap_is = rw over at goes.heap_is;
      left = rw over at goes.left;
    }

-- a call that exceeds the turns ends the run
pub goes_beyond : (turns : ℕ) (program : Typed) (all : List Scheduled) (es : List Entry) (heap : List Value) (before : List Scheduled) (s : Scheduled) (ss : List Scheduled) →
    GoesOn turns program all es heap (s ∷ ss) → all ≡ before ++ s ∷ ss → run_call program turns s.call heap ≡ Beyond_turns →
    (es ≡ entries all (progress_of turns program all).ends) × (heap ≡ (progress_of turns program all).heap) × StopsAt turns program all (s.thread, s.step)
goes_beyond turns program all es heap before s ss goes parts beyond =
    let records : es ++ [] ≡ entries all (progress_of turns program all).ends = rw beyond at goes.records in
    let heap_is : heap ≡ (progress_of turns program all).heap = rw beyond at goes.heap_is in
    let left : calls_of (s ∷ ss) ≡ (progress_of turns program all).unsettled = rw beyond at goes.left in (
      sym (append-nil es) ∙ records,
      heap_is,
      record {
        before = before;
        this = s;
        after = ss;
        parts = parts;
        here = refl;
        unsettled = sym left;
        beyond = ap (run_call program turns s.call) (sym heap_is) ∙ beyond;
      },
    )

-- without a remaining call, the run is at its end
pub goes_to_end : (turns : ℕ) (program : Typed) (all : List Scheduled) (es : List Entry) (heap : List Value) (ss : List Scheduled) →
    GoesOn turns program all es heap ss → ss ≡ [] →
    (es ≡ entries all (progress_of turns program all).ends) × (heap ≡ (progress_of turns program all).heap) × ((progress_of turns program all).unsettled ≡ [])
goes_to_end turns program all es heap ss goes none =
    let records : es ++ [] ≡ entries all (progress_of turns program all).ends = rw none at goes.records in
    let heap_is : heap ≡ (progress_of turns program all).heap = rw none at goes.heap_is in
    let left : [] ≡ (progress_of turns program all).unsettled = rw none at goes.left in
    (sym (append-nil es) ∙ records, heap_is, sym left)
