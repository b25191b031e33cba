-- A call of a well-formed program leaves a typed heap typed.
use Rattle.std.proofs.Common.{◌≡◌, ℕ, List, Option, Some, None, refl, sym, ap, subst}
use Rattle.core_lang.specs.declared.value.Value.{Value}
use Rattle.core_lang.specs.declared.tree.Section.{Section}
use Rattle.core_lang.specs.declared.typed.Typed.{Typed}
use Rattle.core_lang.specs.declared.value.ValueType.{ValueType}
use Rattle.core_lang.specs.Whole.{Run, Over, Beyond_turns, Gone_astray, run_of}
use Rattle.core_lang.specs.Serial.{Invocation, run_section, run_call}
use Rattle.core_lang.specs.Typing.{IsHeap}
use Rattle.core_lang.specs.WellFormed.{CanCall, IsChecked}
use Rattle.core_lang.specs.Laws.{StaysTyped, NeverGoAstray}
use Rattle.meaning.specs.declared.run.End.{End}
use Rattle.meaning.specs.Working.Answer.{IsNothing, Answers, NoneIsBeyond}
use Rattle.meaning.specs.Working.Laws.{AnswersStayTyped}

-- the run of a call stays typed
run_stays : NeverGoAstray → (program : Typed) (number n : ℕ) (arguments heap : List Value) →
    CanCall program number arguments → IsChecked program → IsHeap program heap → (result : Option ValueType) ×
    StaysTyped program result (run_call program n (record { section = number; arguments = arguments }) heap)
unfolding CanCall
run_stays never program number n arguments heap can well typed =
    let section : Section = can.0 in
    let same :
    run_of section program.shape n arguments heap
    ≡ run_call program n (record { section = number; arguments = arguments }) heap =
    ap (λ r. run_section r program n arguments heap) (sym can.1) in
    let stays = never program number n section arguments heap well can.1 can.2 typed in
    (section.result_type, subst (StaysTyped program section.result_type) same stays)

kept_typed : (program : Typed) (result : Option ValueType) (answer : Option End) (run : Run) (old new : List Value) →
    Answers answer run old new → StaysTyped program result run → IsHeap program old → IsHeap program new
kept_typed program result None run old new is stays typed = subst (IsHeap program) (sym is.1) typed
kept_typed program result (Some end) run old new is stays typed =
    let both = subst (StaysTyped program result) is stays in both.0

only_beyond : (program : Typed) (result : Option ValueType) (run : Run) → IsNothing run →
    StaysTyped program result run → run ≡ Beyond_turns
only_beyond program result (Over finished) is stays = absurd is
only_beyond program result Beyond_turns is stays = refl
only_beyond program result Gone_astray is stays = absurd stays

none_beyond : (program : Typed) (result : Option ValueType) (answer : Option End) (run : Run) (old new : List Value) →
    Answers answer run old new → StaysTyped program result run → NoneIsBeyond answer run
none_beyond program result None run old new is stays = only_beyond program result run is.0 stays
none_beyond program result (Some end) run old new is stays = tt

-- the answer to a call, by what never goes astray
pub answers_typed : NeverGoAstray → AnswersStayTyped
answers_typed never program number n arguments old new answer can is well typed =
    let call : Invocation = record { section = number; arguments = arguments } in
    let stays = run_stays never program number n arguments old can well typed in (
      kept_typed program stays.0 answer (run_call program n call old) old new is stays.1 typed,
      none_beyond program stays.0 answer (run_call program n call old) old new is stays.1,
    )
