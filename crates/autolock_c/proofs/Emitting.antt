-- An answer to a request for a program's C is an answer of `emit`.
use Rattle.std.proofs.Common.{◌≡◌, ℕ, Bool, false, List, [], Result, Ok, Err, IfOk}
use Rattle.driver.specs.Answers.{TextAnswers}
use Rattle.driver.specs.Emissions.{IsEmitted}
use Rattle.driver.specs.declared.status.Status.{Status}
use Rattle.driver_words.specs.declared.line.Emission.{Emission}
use Rattle.autolock_c.specs.Given.{EmitAnswers}
use Rattle.autolock_c.specs.Working.Answering.{IsAnswer}
use Rattle.autolock_c.specs.declared.answer.Answer.{Answer}

pub emits : (emission : Emission) (header : Bool) (prefix text : List ℕ) → emission.header ≡ header →
    emission.prefix.now ≡ prefix → emission.lines ≡ false → (result : Result Answer Status) →
    IfOk result (IsAnswer (TextAnswers (IsEmitted emission text) [] text)) →
    IfOk result (IsAnswer (EmitAnswers header prefix text))
emits emission header prefix text part names lines (Ok answer) is = record {
  wrote = is.wrote;
  said = is.said;
  answers = record { emission = emission; part = part; names = names; lines = lines; answers = is.answers };
  text = is.text;
  memory = is.memory;
}
emits emission header prefix text part names lines (Err status) is = is
