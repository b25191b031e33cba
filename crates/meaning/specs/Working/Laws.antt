-- A law of the answers of runs, as `src/laws.rt` claims it.
use Rattle.std.specs.Prelude.{ℕ, List, Option}
use Rattle.core_lang.specs.declared.value.Value.{Value}
use Rattle.core_lang.specs.declared.typed.Typed.{Typed}
use Rattle.core_lang.specs.Typing.{IsHeap}
use Rattle.core_lang.specs.WellFormed.{CanCall, IsChecked}
use Rattle.meaning.specs.declared.run.End.{End}
use Rattle.meaning.specs.Working.Answer.{run_at, Answers, NoneIsBeyond}

-- a call of a well-formed program on a heap of it leaves a heap of it, and with no answer the turns were too few
abbrev pub AnswersStayTyped : Type 0
AnswersStayTyped =
    (program : Typed) (number n : ℕ) (arguments old new : List Value) (answer : Option End) →
    CanCall program number arguments →
    Answers answer (run_at program n number arguments old) old new →
    IsChecked program → IsHeap program old →
    IsHeap program new × NoneIsBeyond answer (run_at program n number arguments old)
