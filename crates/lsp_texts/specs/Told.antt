-- The answers that need only the tokens of a text.
use Rattle.std.specs.Prelude.{◌≡◌, ◌⊎◌, ℕ, List, Option, MatchOption}
use Rattle.serde_json.specs.Data.{Data}
use Rattle.source.specs.declared.fault.Code.{Code}
use Rattle.source.specs.declared.token.Token.{Token}
use Rattle.source.specs.Texts.{HasTokens, IsFault}
use Rattle.source.specs.Tokens.{seen}

-- the text has a lexical fault
abbrev pub HasFault : List ℕ → Type 0
HasFault text = (code : Code) × (start : ℕ) × IsFault text code start

-- the tokens of a text; none where it has a lexical fault
abbrev pub AreTokensOf : List ℕ → Option (List Token) → Type 0
AreTokensOf text found = MatchOption found (HasFault text) (λ tokens. HasTokens text (seen tokens))

-- the answer is made of the text's tokens, or is `otherwise` where the text has a lexical fault
abbrev pub IsToldOf : List ℕ → (List Token → Data) → Data → Data → Type 0
IsToldOf text of_tokens otherwise told =
    ((tokens : List Token) × HasTokens text (seen tokens) × (told ≡ of_tokens tokens)) ⊎ (HasFault text × (told ≡ otherwise))
