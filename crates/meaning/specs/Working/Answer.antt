-- The answers of runs.
use Rattle.std.specs.Prelude.{◌≡◌, ℕ, List, Option, Some, None, Result, IfOk}
use Rattle.core_lang.specs.declared.value.Value.{Value}
use Rattle.core_lang.specs.declared.typed.Typed.{Typed}
use Rattle.core_lang.specs.Whole.{Run, Over, Beyond_turns, Gone_astray}
use Rattle.core_lang.specs.Serial.{run_call}
use Rattle.core_lang.specs.Typing.{IsHeap}
use Rattle.core_lang.specs.WellFormed.{IsChecked}
use Rattle.meaning.specs.declared.run.End.{End}

-- the run of a call of the section of this number
abbrev pub run_at : Typed → ℕ → ℕ → List Value → List Value → Run
run_at program n section arguments heap = run_call program n (record { section = section; arguments = arguments }) heap

-- the run has no end within the turns
abbrev pub IsNothing : Run → Type 0
IsNothing (Over r) = ⊥
IsNothing Beyond_turns = Unit {0}
IsNothing Gone_astray = Unit {0}

-- the answer is the end that the meaning gives, with its heap; or none, if the run has no end, and the heap is as it
-- was
abbrev pub Answers : Option End → Run → List Value → List Value → Type 0
Answers None run old new = IsNothing run × (new ≡ old)
Answers (Some end) run old new = run ≡ Over (record { outcome = end.outcome; prints = end.prints.items; heap = new })

-- without an answer, the turns were too few
abbrev pub NoneIsBeyond : Option End → Run → Type 0
NoneIsBeyond None run = run ≡ Beyond_turns
NoneIsBeyond (Some end) run = Unit {0}

-- without an answer to a call of an accepted program on a typed heap, the turns were too few
abbrev pub NoneIsBeyondIfTyped : {E : Type 0} → Typed → ℕ → ℕ → List Value → List Value → Result (Option End) E → Type 0
NoneIsBeyondIfTyped program n section arguments heap result =
    IsChecked program → IsHeap program heap →
    IfOk result (λ answer. NoneIsBeyond answer (run_at program n section arguments heap))
