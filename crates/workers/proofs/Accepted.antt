-- Calls that run on the compiled program run the same on the program as it was accepted, before its helpers are
-- expanded.
use Rattle.std.proofs.Common.{◌≡◌, ℕ, ℤ, List, [], ◌∷◌, length, map, refl, sym, ap, ◌∙◌, subst, slice_get, Some, take}
use Rattle.std.proofs.lemmas.List.{length-map}
use Rattle.std.proofs.lemmas.List.Elements.{All-head, All-tail}
use Rattle.core_lang.specs.declared.tree.Section.{Section}
use Rattle.core_lang.specs.declared.typed.Cell.{Cell}
use Rattle.core_lang.specs.declared.value.Value.{Value}
use Rattle.core_lang.specs.declared.value.Outcome.{Outcome}
use Rattle.core_lang.specs.Whole.{Finished}
use Rattle.core_lang.specs.Serial.{Invocation, Ended, Serial, SerialFromOpening, WholeCall, end_of}
use Rattle.core_lang.specs.Laws.{CallsFill, ExpansionsRunAlike}
use Rattle.core_lang.specs.Typing.{local_types}
use Rattle.core_lang.specs.WellFormed.{CanCall}
use Rattle.core_lang.specs.Theory.Items.{same_value}
use Rattle.core_lang.specs.Theory.Openings.{have_length, taken_many, enough_locals}
use Rattle.history.specs.Commits.{Commit, call_of, answer_of, committed, IsLegal}
use Rattle.history.specs.Working.Laws.{LegalIsSerial}
use Rattle.layout.specs.Layouts.{LayoutOf}
use Rattle.lock_manager.specs.Manager.{Managed}
use Rattle.lock_manager.specs.Working.Managers.{IsKept}
use Rattle.lowering.specs.Plans.{Plan, IsCompiled, CompiledRunAlike}
use Rattle.workers.specs.Logs.{IsSound}
use Rattle.runner.specs.Working.Opens.{OpenOf, ReadyOf, IsItsEntry, IsSame, entry_of}
use Rattle.workers.specs.Answers.{RunsAsAccepted, IsAnswerAsAccepted}
use Rattle.workers.specs.Working.Guarding.{AreCallable, IsManagerOf}
use Rattle.workers.specs.Working.Within.{HasBegun, IsEntered, IsNotedOf}
use Rattle.workers.specs.declared.seat.Done.{Done}

-- ---- calls

-- a call that can be made has an argument for each parameter
fills : (plan : Plan) (call : Invocation) → IsCompiled plan → CanCall plan.program call.section call.arguments →
    (section : Section) → slice_get plan.accepted.sections.items call.section ≡ Some section →
    length call.arguments ≡ section.parameters
unfolding CanCall
fills plan call ok (mine, is, fit) section there =
    let found = ok.expanded.expansion.there call.section section there in
    let same = same_value (slice_get plan.program.sections.items call.section) found.0 mine found.1 is in
    let many = have_length plan.program.shape (local_types (take mine.parameters mine.locals.items)) call.arguments fit in
    let le = enough_locals mine (ok.well_formed.scopes call.section mine is) in
    many ∙ taken_many mine.parameters mine.locals.items le ∙ ap (λ (z : Section). z.parameters) (sym same) ∙ found.2.parameters

all_fill : (plan : Plan) (log : List Commit) → IsCompiled plan → AreCallable plan.program log →
    CallsFill plan.accepted (map call_of log)
all_fill plan [] ok can = tt
all_fill plan (c ∷ log) ok can =
    let CanMake = λ (x : Commit). CanCall plan.program x.section x.arguments in
    (fills plan (call_of c) ok (All-head CanMake c log can), all_fill plan log ok (All-tail CanMake c log can))

-- a history's calls
pub history_accepted : (plan : Plan) (log : List Commit) (values : List Value) → CompiledRunAlike → IsCompiled plan →
    AreCallable plan.program log → SerialFromOpening plan.program (map call_of log) (map answer_of log) values →
    RunsAsAccepted plan log values
history_accepted plan log values alike ok can serial =
    (alike plan (map call_of log) (map answer_of log) values ok (all_fill plan log ok can)).1 serial

same_end : (f f' : Finished) → end_of f ≡ end_of f' → f.heap ≡ f'.heap → f ≡ f'
same_end f f' ends heaps =
    let with_heap : List Value → Finished = λ h. record { outcome = f.outcome; prints = f.prints; heap = h } in
    let with_end : Ended → Finished = λ e. record { outcome = e.outcome; prints = e.prints; heap = f'.heap } in
    ap with_heap heaps ∙ ap with_end ends

-- one call
call_accepted : (plan : Plan) (call : Invocation) (heap : List Value) (finished : Finished) → ExpansionsRunAlike →
    IsCompiled plan → CanCall plan.program call.section call.arguments → WholeCall plan.program call heap finished →
    WholeCall plan.accepted call heap finished
call_accepted plan call heap finished alike ok can whole =
    let fill : CallsFill plan.accepted (call ∷ []) = (fills plan call ok can, tt) in
    let runs : Serial plan.program heap (call ∷ []) (end_of finished ∷ []) finished.heap = (finished, whole, refl, refl) in
    let runs' : Serial plan.accepted heap (call ∷ []) (end_of finished ∷ []) finished.heap =
    (alike plan.accepted plan.program heap finished.heap (call ∷ []) (end_of finished ∷ []) ok.expanded.expansion fill).1 runs in
    subst (WholeCall plan.accepted call heap) (same_end runs'.0 finished runs'.2 runs'.3) runs'.1

-- ---- answers

-- the calls of a sound log
log_accepted : (plan : Plan) (log : List Commit) → LegalIsSerial → CompiledRunAlike → IsCompiled plan →
    AreCallable plan.program log → IsSound plan log → RunsAsAccepted plan log (committed plan.layout.opening log)
log_accepted plan log serial alike ok can sound =
    let opening = ok.laid_out.opening in
    let many : length plan.layout.opening ≡ length plan.program.cells.items =
    ap length opening ∙ length-map plan.program.cells.items (λ (cell : Cell). cell.opening) in
    let runs = serial plan.program plan.layout.opening log many sound.legal sound.true_entries in
    history_accepted plan log (committed plan.layout.opening log) alike ok can
    (subst (λ (h : List Value). Serial plan.program h (map call_of log) (map answer_of log) (committed plan.layout.opening log)) opening runs)

-- the calls of a manager's history
pub closed_accepted : (plan : Plan) (m : Managed) → LegalIsSerial → CompiledRunAlike → IsCompiled plan → IsManagerOf plan m →
    IsKept m → RunsAsAccepted plan m.history m.values
closed_accepted plan m serial alike ok d kept =
    let left : m.values ≡ committed plan.layout.opening m.history = kept.values ∙ ap (λ (l : LayoutOf). committed l.opening m.history) d.layout in
    let sound : IsSound plan m.history = record {
      legal = subst (λ (l : LayoutOf). IsLegal l.opening m.history) d.layout kept.legal;
      true_entries = d.true_entries;
    } in
    subst (RunsAsAccepted plan m.history) (sym left) (log_accepted plan m.history serial alike ok d.callable sound)

-- an entry that follows a sound log answers its call on the accepted program
accepted_from : (plan : Plan) (floor position : ℕ) (o : OpenOf) (e : Commit) → LegalIsSerial → CompiledRunAlike →
    ExpansionsRunAlike → IsCompiled plan → CanCall plan.program o.activation.call.section o.activation.call.arguments →
    IsItsEntry o e → IsEntered plan floor o position →
    IsAnswerAsAccepted plan o.activation.call position e.outcome e.prints
accepted_from plan floor position o e serial alike expansions ok can its entered =
    let c = entry_of o e.outcome in
    let prints : c.prints ≡ e.prints = sym (ap (λ (x : Commit). x.prints) its.is) in
    let heap = committed plan.layout.opening entered.log in
    let is : IsAnswerAsAccepted plan o.activation.call position e.outcome c.prints = record {
      log = entered.log;
      long = entered.long;
      sound = entered.sound;
      before = log_accepted plan entered.log serial alike ok entered.callable entered.sound;
      heap = _;
      gives =
          call_accepted plan o.activation.call heap _ expansions ok can
          (entered.is_true e.outcome its.over heap entered.cells entered.agrees);
    } in
    subst (λ (ps : List ℤ). IsAnswerAsAccepted plan o.activation.call position e.outcome ps) prints is

-- the same for an answer with the parts of the entry
pub answered_as_accepted : (plan : Plan) (position section floor : ℕ) (arguments : List Value) (ready : ReadyOf) (b o : OpenOf)
    (e : Commit) (told : Done) → LegalIsSerial → CompiledRunAlike → ExpansionsRunAlike → IsCompiled plan →
    CanCall plan.program section arguments → HasBegun plan (record { section = section; arguments = arguments }) ready b →
    IsSame b o → IsItsEntry o e → IsNotedOf e told → IsEntered plan floor o position →
    IsAnswerAsAccepted plan (record { section = section; arguments = arguments }) position told.outcome told.prints.items
answered_as_accepted plan position section floor arguments ready b o e told serial alike expansions ok can begun same its are entered =
    let call : Invocation = record { section = section; arguments = arguments } in
    let calls : o.activation.call ≡ call = same.call ∙ begun.call_is in
    let mine : CanCall plan.program o.activation.call.section o.activation.call.arguments =
    subst (λ (i : Invocation). CanCall plan.program i.section i.arguments) (sym calls) can in
    let answer = accepted_from plan floor position o e serial alike expansions ok mine its entered in
    let of_call : IsAnswerAsAccepted plan call position e.outcome e.prints =
    subst (λ (i : Invocation). IsAnswerAsAccepted plan i position e.outcome e.prints) calls answer in
    let of_outcome : IsAnswerAsAccepted plan call position told.outcome e.prints =
    subst (λ (x : Outcome). IsAnswerAsAccepted plan call position x e.prints) (sym are.outcome) of_call in
    subst (λ (ps : List ℤ). IsAnswerAsAccepted plan call position told.outcome ps) (sym are.prints) of_outcome
