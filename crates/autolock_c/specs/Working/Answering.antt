-- What this crate's functions tell each other of an answer. It mirrors the code: nobody has to believe it.
use Rattle.std.specs.Prelude.{◌≡◌, ◌≢◌, ◌⊎◌, ℕ, List, ◌++◌, length, Result, Ok, Err}
use Rattle.driver.specs.{exit_status}
use Rattle.driver.specs.declared.status.Status.{Status}
use Rattle.driver.specs.declared.status.Status.TheVariants.{BadWords, OutOfMemory}
use Rattle.driver_words.specs.Lines.{IsPrefix}
use Rattle.autolock_c.specs.declared.answer.Answer.{Answer}
use Rattle.autolock_c.specs.Given.{laid_over}

-- an answer of this kind: `text` is what was written, followed by what was reported; memory did not run out
pub record IsAnswer (Answers : Status → List ℕ → List ℕ → Type 0) (answer : Answer) : Type 0 where
  pub wrote : List ℕ
  pub said : List ℕ
  pub answers : Answers answer.status wrote said
  pub text : answer.text.items ≡ wrote ++ said
  pub memory : answer.status ≢ OutOfMemory

-- an answer is handed out, or, where there is none, the status that says why
abbrev pub IsHandedOut : Result Answer Status → List ℕ → List ℕ → ℕ → ℕ → Type 0
IsHandedOut (Ok answer) old new needed code =
    (code ≡ exit_status answer.status) × (needed ≡ length answer.text.items) × (new ≡ laid_over answer.text.items old)
IsHandedOut (Err status) old new needed code = (code ≡ exit_status status) × (needed ≡ 0) × (new ≡ old)

-- the reason why nothing is emitted: the prefix is not a prefix, or it is one and memory ran out
abbrev pub IsUnemitted : List ℕ → Status → Type 0
IsUnemitted prefix status =
    ((status ≡ BadWords) × (IsPrefix prefix → ⊥)) ⊎ ((status ≡ OutOfMemory) × IsPrefix prefix)
