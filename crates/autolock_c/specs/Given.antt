-- The results of a caller in C: the status, and the content of the room that it lent.
use Rattle.std.specs.Prelude.{◌≡◌, ℕ, Bool, false, List, [], ◌++◌, length, take, drop}
use Rattle.driver.specs.Statuses.{exit_status}
use Rattle.driver.specs.declared.status.Status.{Status}
use Rattle.driver.specs.Answers.{TextAnswers}
use Rattle.driver.specs.Emissions.{IsEmitted}
use Rattle.driver_words.specs.declared.line.Emission.{Emission}

-- as much of a text as there is room for; the room after the text is unchanged
abbrev pub laid_over : List ℕ → List ℕ → List ℕ
laid_over text room = take (length room) text ++ drop (length text) room

-- an answer of this kind: its status, the length of its text and message, and as much of these as there is room for
pub record IsGiven (Answers : Status → List ℕ → List ℕ → Type 0) (status : ℕ) (old new : List ℕ)
    (needed : ℕ) : Type 0 where
  pub ended : Status
  pub wrote : List ℕ
  pub said : List ℕ
  pub answers : Answers ended wrote said
  pub code : status ≡ exit_status ended
  pub whole : needed ≡ length (wrote ++ said)
  pub given : new ≡ laid_over (wrote ++ said) old

-- nothing is given: the room is unchanged
abbrev pub IsNothing : List ℕ → List ℕ → ℕ → Type 0
IsNothing old new needed = (new ≡ old) × (needed ≡ 0)

-- the answers of `emit` for a text without a file name: its C, or the header of its C, with this prefix, without the
-- lines of the text
pub record EmitAnswers (header : Bool) (prefix text : List ℕ) (status : Status) (out err : List ℕ) : Type 0 where
  pub emission : Emission
  pub part : emission.header ≡ header
  pub names : emission.prefix.now ≡ prefix
  pub lines : emission.lines ≡ false
  pub answers : TextAnswers (IsEmitted emission text) [] text status out err
