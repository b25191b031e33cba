-- An engine that reads a program's file alone, and gave what it answers to the beginning of its text, has served its
-- request.
use Rattle.std.proofs.Common.{◌≡◌, ◌<◌, ◌+◌, ◌⊎◌, true, false, ℕ, List, [], length, take, Option, Result, IfOk, arith, refl}
use Rattle.std.proofs.lemmas.Result.{IfOk-weaker}
use Rattle.std.specs.Prelude.{IfSome}
use Rattle.std.specs.Io.KnownBytes.{IsAtEnd}
use Rattle.driver_words.specs.declared.line.Alone.{Alone}
use Rattle.source.specs.declared.memory.NoMemory.{NoMemory}
use Rattle.source.specs.Texts.{SOURCE_LIMIT}
use Rattle.driver.specs.declared.answer.Answer.{Answer}
use Rattle.driver.specs.declared.streams.Streams.{Streams}
use Rattle.driver.specs.declared.status.Status.{Status}
use Rattle.driver.specs.Answers.{OfOne}
use Rattle.driver.specs.Engines.{Serves, Reading}
use Rattle.driver.specs.Requests.{AloneAnswers}
use Rattle.driver.specs.Streams.{writing_failed}
use Rattle.driver.specs.Working.Answering.{Meets}
use Rattle.driver.specs.Working.Serving.{IsGiven}
use Rattle.driver.proofs.AnswerLemmas.{alone_is_answered}
use Rattle.driver.proofs.LongTexts.{read_or_long}
use Rattle.driver.proofs.ServingLemmas.{given_served, IsRight}

-- an answer for the beginning of a text is an answer for the text
abbrev pub IsAnswerOfWhole : Alone → Reading → List ℕ → Type 0
IsAnswerOfWhole request program t =
    (status : Status) (out err : List ℕ) → AloneAnswers request program.name t status out err →
    (text : List ℕ) × IfSome program.had (λ bytes. text ≡ bytes) × AloneAnswers request program.name text status out err

pub alone_served : {O E : Type 0} (request : Alone) (program : Reading) (contents : O → Option (List ℕ)) (told : E → Option (List ℕ))
    (old new : Streams O E) (status : Status) (t : List ℕ) (result : Result Answer NoMemory) →
    IsAnswerOfWhole request program t →
    IfSome program.had (λ bytes. t ≡ take (SOURCE_LIMIT + 1) bytes) → IsAtEnd program.left ⊎ (SOURCE_LIMIT < length t) →
    program.opened ≡ true → program.failed ≡ false → writing_failed old.out ≡ false →
    IfOk result (Meets (AloneAnswers request program.name t)) → IsGiven contents told result old new status →
    Serves (OfOne (AloneAnswers request program.name)) program [] contents told old new status
alone_served request program contents told old new status t result whole bytes ended opened read writable answers given =
    given_served (OfOne (AloneAnswers request program.name)) program [] contents told old new status result (rw read refl) writable
    ((opened, read_or_long t program.had program.left bytes ended), λ k d within. absurd (omega arith))
    (IfOk-weaker result _ (IsRight (OfOne (AloneAnswers request program.name)) program [])
    (λ answer is.
    let right = whole _ _ _ is in
    record {
      text = right.0;
      texts = [];
      gave = (right.1, tt);
      answers = right.2;
      answered = alone_is_answered request _ _ _ _ _ is;
    })
    answers)
    given
