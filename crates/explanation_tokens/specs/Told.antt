-- The notes on an unexpected token: the advice, and what could be in its place.
use Rattle.std.specs.Prelude.{◌≡◌, ℕ, ◌≤◌, List, All, ◌++◌, length, option_to_list, Some}
use Rattle.source.specs.declared.fault.Code.{Code}
use Rattle.source.specs.declared.fault.Code.TheVariants.{UnexpectedToken}
use Rattle.source.specs.Tokens.{Tok}
use Rattle.explanation.specs.Notes.{Note}
use Rattle.explanation_tokens.specs.Advice.{advice_on}
use Rattle.explanation_tokens.specs.Expected.{AreInOrder, AreTokenNotes, IsBehind}

-- the note is the advice of the first row that fits the token which begins there
pub record IsAdvice (ts : List Tok) (code : Code) (start : ℕ) (note : Note) : Type 0 where
  pub unexpected : code ≡ UnexpectedToken
  pub before : List Tok
  pub place : IsBehind ts start before
  pub first : advice_on ts (length before) ≡ Some note

-- for tokens in order the advice is one note if a row fits, and otherwise none
pub record IsAdvised (ts : List Tok) (code : Code) (start : ℕ) (advice : List Note) : Type 0 where
  pub are_advice : All (IsAdvice ts code start) advice
  pub told : AreInOrder ts start → code ≡ UnexpectedToken → (before : List Tok) → IsBehind ts start before →
      advice ≡ option_to_list (advice_on ts (length before))

-- the advice first, then what could be there
pub record AreNotesOnTokens (ts : List Tok) (code : Code) (start : ℕ) (notes : List Note) : Type 0 where
  pub advice : List Note
  pub expected : List Note
  pub parts : notes ≡ advice ++ expected
  pub advised : IsAdvised ts code start advice
  pub few : length advice ≤ 1
  pub are_expected : AreTokenNotes ts code start expected
