-- The call that a line can be of.
use Rattle.std.proofs.Common.{◌≡◌, ◌∙◌, ◌<◌, ◌≤◌, ◌^◌, ℕ, true, false, List, ◌++◌, length, slice_get, Some, None, arith, sym}
use Rattle.std.proofs.Common.{ap, refl, subst}
use Rattle.std.specs.Prelude.{option_map, drop}
use Rattle.std.specs.BTreeMap.{BTreeMap}
use Rattle.std.proofs.lemmas.Bool.{le-leb, leb-true, and_from, and_parts}
use Rattle.std.proofs.lemmas.Option.{slice_get_within}
use Rattle.std.proofs.lemmas.Bool.Decides.{Decides-eqb}
use Rattle.std.proofs.lemmas.Slice.Eq.{starts_is}
use Rattle.core_lang.specs.declared.typed.Call.{Call}
use Rattle.core_lang.specs.declared.typed.Thread.{Thread}
use Rattle.core_lang.specs.declared.typed.Typed.{Typed}
use Rattle.core_lang.specs.Serial.{Invocation, Scheduled, invocation}
use Rattle.core_lang.specs.WellFormed.{IsChecked, CanCall}
use Rattle.input_files.specs.declared.format.Format.{Format}
use Rattle.input_files.specs.declared.format.Format.TheVariants.{One, Two}
use Rattle.input_files.specs.Pieces.{begins}
use Rattle.core_lang.specs.Theory.Items.{lookup_some}
use Rattle.report.specs.declared.record.CallRef.{CallRef}
use Rattle.report.specs.Entry.{scheduled_called}
use Rattle.report.specs.History.{call_head}
use Rattle.replay.specs.declared.callers.Callers.{Callers}
use Rattle.replay.specs.declared.callers.Callers.TheVariants.{Scripts, Anyone}
use Rattle.replay.specs.declared.told.Told.{Told}
use Rattle.replay.specs.declared.progress.ThreadProgress.{ThreadProgress}
use Rattle.replay.specs.declared.progress.Progress.{Progress}
use Rattle.replay.specs.Told.{told_in, invocation_in, invoked_text}
use Rattle.replay.specs.Readers.{Reader, IsNext, IsNextCall, MayBegin, next_call, calls_by}
use Rattle.replay.specs.Working.Reading.{IsAt, AreSeats, called_at, least_at, call_in, begins_at, IsNoCall, IsOnlyCall, IsSound}
use Rattle.replay.specs.Working.Reading.{IsThread}
use Rattle.replay.specs.Working.Seats.{seat_in}
use Rattle.replay.proofs.Cutting.{invocation_kept}
use Rattle.replay.proofs.Heads.{shown, IsShort, told_head, invoked_head}
use Rattle.replay.proofs.Nexts.{call_told, calls_by_most, next_counted, next_thread, scripted_call, short_begin}
use Rattle.replay.proofs.Scripts.{scheduled_at, next_call_in, call_in_bounds}

-- ---- the line of a thread's next call

record Agrees (format : Format) (at : Progress) (text : List ℕ) (call : Scheduled) (begun : ℕ) : Type 0 where
  told : told_in format text ≡ Some (record { thread = call.thread; step = call.step; begun = shown format begun })
  counted : call.step ≡ called_at at.seats call.thread
  begins : begins_at format (least_at at.seats call.thread) at.position (shown format begun) ≡ true

begins_told : (format : Format) (seats : BTreeMap ℕ ThreadProgress) (order : List ℕ) (t begun position : ℕ) → AreSeats seats order →
    position ≡ length order →
    MayBegin format order t begun → begins_at format (least_at seats t) position (shown format begun) ≡ true
begins_told One seats order t begun position are is may = refl
begins_told Two seats order t begun position are is may =
    let least = (are.least t begun).0 may.1 in
    let most = may.0 in
    and_from _ _ (le-leb _ _ least) (le-leb _ _ (omega (arith, most, is)))

pub begins_allowed : (format : Format) (seats : BTreeMap ℕ ThreadProgress) (order : List ℕ) (t begun position : ℕ) →
    AreSeats seats order → position ≡ length order →
    begins_at format (least_at seats t) position begun ≡ true → MayBegin format order t begun
begins_allowed One seats order t begun position are is may = tt
begins_allowed Two seats order t begun position are is may =
    let both = and_parts _ _ may in
    let most = leb-true _ _ both.1 in
    (omega (arith, most, is), (are.least t begun).1 (leb-true _ _ both.0))

agrees : (callers : Callers) (format : Format) (program : Typed) (at : Progress) (text : List ℕ) (reader : Reader) (call : Scheduled) (begun : ℕ) (end : List ℕ) →
    IsChecked program → at.position < 2 ^ 63 → IsAt program at reader → IsNextCall callers format program reader.order text call begun end →
    Agrees format at text call begun
agrees callers format program at text reader call begun end well small is next =
    let position = is.position in
    let short = short_begin format reader.order call.thread begun next.begins (omega (arith, position, small)) in
    let thread = next_thread callers program reader.order call well next.next in
    let counted = next_counted callers program reader.order call next.next in
    let most = calls_by_most call.thread reader.order in
    record {
      told = ap (told_in format) next.told ∙ told_head format program call begun end thread (omega (arith, counted, most, position, small)) short;
      counted = counted ∙ sym (is.seats.called call.thread);
      begins = begins_told format at.seats reader.order call.thread begun at.position is.seats position next.begins;
    }

same_heads : (f : Format) (program : Typed) (call : Scheduled) (begun other : ℕ) → other ≡ shown f begun →
    call_head f program call begun ≡ call_head f program call other
same_heads One program call begun other same = refl
same_heads Two program call begun other same = ap (call_head Two program call) (sym same)

-- the call with these parts
pub with_parts : (this : CallRef) (t k : ℕ) (c : Invocation) → this.thread ≡ t → this.step ≡ k →
    record { section = this.section; arguments = this.arguments.now } ≡ c →
    scheduled_called this ≡ record { thread = t; step = k; call = c }
with_parts this t k c thread step call =
    ap (λ u. record { thread = u; step = this.step; call = record { section = this.section; arguments = this.arguments.now } }) thread
    ∙ ap (λ n. record { thread = t; step = n; call = record { section = this.section; arguments = this.arguments.now } }) step
    ∙ ap (λ c. record { thread = t; step = k; call = c }) call

-- ---- callers of either kind

module _ (callers : Callers) (format : Format) (program : Typed) (at : Progress) (text : List ℕ) (well : IsChecked program) (small : at.position < 2 ^ 63) where
  -- the line does not begin as the line of a call
  pub no_told : told_in format text ≡ None → IsNoCall callers format program at text
  no_told none reader call begun end is next =
      let a = agrees callers format program at text reader call begun end well small is next in
      let e = sym none ∙ a.told in absurd (cc)

  module _ (told : Told) (is : told_in format text ≡ Some told) where
    pub record IsOf (call : Scheduled) (begun : ℕ) : Type 0 where
      pub thread : told.thread ≡ call.thread
      pub step : told.step ≡ call.step
      pub said : told.begun ≡ shown format begun
      pub counted : call.step ≡ called_at at.seats told.thread
      pub begins : begins_at format (least_at at.seats told.thread) at.position told.begun ≡ true

    pub of_told : (reader : Reader) (call : Scheduled) (begun : ℕ) (end : List ℕ) → IsAt program at reader →
        IsNextCall callers format program reader.order text call begun end → IsOf call begun
    of_told reader call begun end at_reader next =
        let a = agrees callers format program at text reader call begun end well small at_reader next in
        let e : Some told ≡ Some (record { thread = call.thread; step = call.step; begun = shown format begun }) = sym is ∙ a.told in
        let same : told ≡ record { thread = call.thread; step = call.step; begun = shown format begun } = cc in
        let thread = ap (λ (x : Told). x.thread) same in
        let begins = ap (λ (x : Told). x.begun) same in
        record {
          thread = thread;
          step = ap (λ (x : Told). x.step) same;
          said = begins;
          counted = a.counted ∙ ap (called_at at.seats) (sym thread);
          begins = ap (λ t. begins_at format (least_at at.seats t) at.position told.begun) thread
              ∙ ap (begins_at format (least_at at.seats call.thread) at.position) begins ∙ a.begins;
        }

    -- a call with this begin is not allowed
    pub no_begin : begins_at format (seat_in at.seats told.thread).least at.position told.begun ≡ false → IsNoCall callers format program at text
    no_begin never reader call begun end at_reader next =
        let e = sym never ∙ (of_told reader call begun end at_reader next).begins in absurd (cc)

    -- the call may be the next one, and no other call may
    pub only_of : (this : CallRef) → IsThread callers program this.thread → IsSound callers program at →
        begins_at format (seat_in at.seats told.thread).least at.position told.begun ≡ true →
        this.thread ≡ told.thread → this.step ≡ (seat_in at.seats told.thread).called → this.begun ≡ told.begun →
        CanCall program this.section this.arguments.now →
        ((reader : Reader) (end : List ℕ) → IsAt program at reader →
        text ≡ call_head format program (scheduled_called this) this.begun ++ end → IsNext callers program reader.order (scheduled_called this)) →
        ((reader : Reader) (call : Scheduled) (begun : ℕ) (end : List ℕ) → IsAt program at reader →
        IsNextCall callers format program reader.order text call begun end → IsOf call begun →
        call.call ≡ record { section = this.section; arguments = this.arguments.now }) →
        IsOnlyCall callers format program at text this
    only_of this in_program sound may thread step begins fits next same_call =
        let counted : called_at at.seats this.thread ≡ this.step = ap (called_at at.seats) thread ∙ sym step in
        let few = sound.few this.thread in
        record {
          counted = counted;
          thread = in_program;
          few = omega (arith, counted, few, small);
          next = next;
          begins = λ reader at_reader.
              subst (λ t. MayBegin format reader.order t this.begun) (sym thread)
              (subst (MayBegin format reader.order told.thread) (sym begins)
              (begins_allowed format at.seats reader.order told.thread told.begun at.position at_reader.seats at_reader.position may));
          fits = fits;
          only = λ reader other begun end at_reader at_next.
              let o = of_told reader other begun end at_reader at_next in
              let whole : scheduled_called this ≡ other =
              with_parts this other.thread other.step other.call (thread ∙ o.thread) (step ∙ sym o.counted)
              (sym (same_call reader other begun end at_reader at_next o)) in
              (sym whole, same_heads format program other begun this.begun (begins ∙ o.said) ∙ ap (λ s. call_head format program s this.begun) (sym whole));
        }

-- ---- calls of scripts

module _ (format : Format) (program : Typed) (at : Progress) (text : List ℕ) (well : IsChecked program) (small : at.position < 2 ^ 63)
    (told : Told) (is : told_in format text ≡ Some told) where
  -- the call is the one in the script
  here_found : (reader : Reader) (call : Scheduled) (begun : ℕ) (end : List ℕ) → IsAt program at reader →
      IsNextCall Scripts format program reader.order text call begun end →
      (found : Call) × (call_in program told.thread (called_at at.seats told.thread) ≡ Some found) × (call.call ≡ invocation found)
  here_found reader call begun end at_reader next =
      let o = of_told Scripts format program at text well small told is reader call begun end at_reader next in
      let found = scripted_call program reader.order call next.next in
      let step : called_at at.seats told.thread ≡ calls_by call.thread reader.order =
      ap (called_at at.seats) o.thread ∙ at_reader.seats.called call.thread in (
        found.0,
        ap (call_in program told.thread) step ∙ ap (λ t. call_in program t (calls_by call.thread reader.order)) o.thread ∙ found.1,
        ap (λ (s : Scheduled). s.call) (sym found.2),
      )

  -- the script has no further call
  pub no_call : call_in program told.thread (seat_in at.seats told.thread).called ≡ None → IsNoCall Scripts format program at text
  no_call none reader call begun end at_reader next =
      let found = here_found reader call begun end at_reader next in
      let e = sym none ∙ found.1 in absurd (cc)

  -- the thread's next call may have this begin
  pub only_call : (this : CallRef) (call : Call) → IsSound Scripts program at →
      call_in program told.thread (seat_in at.seats told.thread).called ≡ Some call →
      begins_at format (seat_in at.seats told.thread).least at.position told.begun ≡ true →
      this.thread ≡ told.thread → this.step ≡ (seat_in at.seats told.thread).called → this.begun ≡ told.begun →
      this.section ≡ call.section → this.arguments.now ≡ call.arguments.items → IsOnlyCall Scripts format program at text this
  only_call this call sound here may thread step begins section arguments =
      let n = (seat_in at.seats told.thread).called in
      let bounds = call_in_bounds program told.thread n call here well in
      let script = lookup_some (slice_get program.threads.items told.thread) (λ (x : Thread). slice_get x.calls.items n) call here in
      let within = slice_get_within program.threads.items told.thread script.0 script.1 in
      let called : record { section = this.section; arguments = this.arguments.now } ≡ invocation call =
      ap (λ s. record { section = s; arguments = this.arguments.now }) section ∙ ap (λ xs. record { section = call.section; arguments = xs }) arguments in
      only_of Scripts format program at text well small told is this (omega (arith, within, thread)) sound may thread step begins
      (subst (λ s. CanCall program s this.arguments.now) (sym section) (subst (CanCall program call.section) (sym arguments) bounds.1))
      (λ reader end at_reader line.
      let said = with_parts this told.thread n (invocation call) thread step called in
      let counted : n ≡ calls_by told.thread reader.order = at_reader.seats.called told.thread in
      ap (next_call program reader.order) thread ∙ next_call_in program reader.order told.thread
      ∙ ap (λ k. option_map (scheduled_at told.thread k) (call_in program told.thread k)) (sym counted)
      ∙ ap (option_map (scheduled_at told.thread n)) here ∙ ap Some (sym said))
      (λ reader other begun end at_reader next o.
      let found = here_found reader other begun end at_reader next in
      let e : Some call ≡ Some found.0 = sym here ∙ found.1 in
      let same : call ≡ found.0 = cc in
      found.2 ∙ ap invocation (sym same) ∙ sym called)

-- ---- calls from outside

module _ (format : Format) (program : Typed) (at : Progress) (text : List ℕ) (well : IsChecked program) (small : at.position < 2 ^ 63)
    (told : Told) (is : told_in format text ≡ Some told) where
  -- the number of the thread does not fit in 32 bits
  pub no_thread : 2 ^ 32 ≤ told.thread → IsNoCall Anyone format program at text
  no_thread past reader call begun end at_reader next =
      let thread = (of_told Anyone format program at text well small told is reader call begun end at_reader next).thread in
      let bound = next.next.thread in
      absurd (omega (arith, past, thread, bound))

  -- the call of the line can't be made
  pub no_fit : (c : Invocation) → invocation_in program (invoked_text format text) ≡ Some c →
      (CanCall program c.section c.arguments → ⊥) → IsNoCall Anyone format program at text
  no_fit c said never reader call begun end at_reader next =
      let e : Some c ≡ Some call.call = sym said ∙ call_told format program reader.order text call begun end next in
      let same : c ≡ call.call = cc in
      never (subst (λ (x : Invocation). CanCall program x.section x.arguments) (sym same) next.next.fits)

  -- the call can be made by the thread, and may have this begin
  pub only_open : (this : CallRef) → IsSound Anyone program at →
      begins_at format (seat_in at.seats told.thread).least at.position told.begun ≡ true →
      this.thread ≡ told.thread → this.step ≡ (seat_in at.seats told.thread).called → this.begun ≡ told.begun →
      told.thread < 2 ^ 32 →
      CanCall program this.section this.arguments.now →
      invocation_in program (invoked_text format text) ≡ Some (record { section = this.section; arguments = this.arguments.now }) →
      IsOnlyCall Anyone format program at text this
  only_open this sound may thread step begins bound fits said =
      let few = sound.few told.thread in
      only_of Anyone format program at text well small told is this tt sound may thread step begins fits
      (λ reader end at_reader line.
      let position = at_reader.position in
      let s = scheduled_called this in
      let short = short_begin format reader.order told.thread told.begun
      (begins_allowed format at.seats reader.order told.thread told.begun at.position at_reader.seats position may) (omega (arith, position, small)) in
      record {
        thread = omega (arith, thread, bound);
        counted = step ∙ at_reader.seats.called told.thread ∙ ap (λ t. calls_by t reader.order) (sym thread);
        fits = fits;
        told = sym (invocation_kept program this.section this.arguments.now _)
            ∙ sym (ap (invocation_in program) (invoked_head format program s this.begun end (omega (arith, thread, bound)) (omega (arith, step, few, small))
            (subst (IsShort format) (sym begins) short)))
            ∙ sym (ap (λ x. invocation_in program (invoked_text format x)) line) ∙ said;
        few = omega (arith, position, small);
      })
      (λ reader other begun end at_reader next o.
      let e : Some other.call ≡ Some (record { section = this.section; arguments = this.arguments.now }) =
      sym (call_told format program reader.order text other begun end next) ∙ said in
      cc)

-- the line has no call
pub no_invocation : (format : Format) (program : Typed) (at : Progress) (text : List ℕ) →
    invocation_in program (invoked_text format text) ≡ None → IsNoCall Anyone format program at text
no_invocation format program at text none reader call begun end at_reader next =
    let e = sym none ∙ call_told format program reader.order text call begun end next in absurd (cc)

-- ---- the head

-- the line begins with the word
pub begins_so : (word text : List ℕ) → begins word text ≡ true → (rest : List ℕ) × (text ≡ word ++ rest)
begins_so word text so = (drop (length word) text, (starts_is Decides-eqb text word (begins word text) refl).0 so)

pub begins_with : (word text rest : List ℕ) → text ≡ word ++ rest → begins word text ≡ true
begins_with word text rest is = (starts_is Decides-eqb text word (begins word text) refl).1 rest is

-- a line that does not begin as the line of the only call is not the line of a call
pub no_head : (callers : Callers) (format : Format) (program : Typed) (at : Progress) (text written : List ℕ) (this : CallRef) →
    IsOnlyCall callers format program at text this →
    written ≡ call_head format program (scheduled_called this) this.begun → begins written text ≡ false → IsNoCall callers format program at text
no_head callers format program at text written this only is not reader call begun end at_reader next =
    let same = only.only reader call begun end at_reader next in
    let so = begins_with written text end (next.told ∙ ap (λ head. head ++ end) (same.1 ∙ sym is)) in
    let e = sym not ∙ so in absurd (cc)
