-- The state while tokens are tried. Nobody has to believe this file.
use Rattle.std.specs.Prelude.{◌≡◌, ℕ, ◌+◌, ◌≤◌, ◌==◌, Bool, true, false, List, [], ◌∷◌, length, take, slice_get, Some}
use Rattle.std.specs.Prelude.{None}
use Rattle.explanation.specs.Notes.{Note}
use Rattle.source.specs.Tokens.{Tok, seen}
use Rattle.source.specs.declared.fault.Code.{Code}
use Rattle.source.specs.declared.fault.Code.TheVariants.{UnexpectedToken, MisplacedReturn}
use Rattle.source.specs.declared.token.Token.{Token}
use Rattle.explanation_tokens.specs.declared.trial.TokenPlace.{TokenPlace}
use Rattle.explanation_tokens.specs.declared.candidate.Candidate.{Candidate}
use Rattle.explanation_tokens.specs.Expected.{expected_words, StartBefore}

-- the tokens before the place
abbrev pub before_in : TokenPlace → List Token → List Tok
before_in place tokens = take place.number (seen tokens)

-- the place has that many tokens before it, which start before it, and its span is one byte
pub record AreBefore (place : TokenPlace) (tokens : List Token) : Type 0 where
  pub within : place.number ≤ length tokens
  pub before : StartBefore (before_in place tokens) place.span.start
  pub one : place.span.end ≡ place.span.start + 1

-- the place is that of a token that starts at this byte, after those that start before it
pub record IsPlace (tokens : List Token) (start : ℕ) (place : TokenPlace) : Type 0 where
  pub behind : AreBefore place tokens
  pub same : place.span.start ≡ start
  pub token : Tok
  pub there : slice_get (seen tokens) place.number ≡ Some token
  pub starts : token.span.start ≡ start

-- the fault of tokens with the tried one last, before the end of the text at `last`, shows that the tried token can
-- come
abbrev pub says_it_can : Code → ℕ → ℕ → Bool
says_it_can UnexpectedToken at last = at == last
says_it_can MisplacedReturn at last = true
says_it_can _ at last = false

-- the note on these candidates, if there are any
abbrev pub notes_on : List Candidate → List Note
notes_on [] = []
notes_on (first ∷ others) = (record { start = None; words = expected_words first others }) ∷ []
