-- The names that are taken where a name is declared.
use Rattle.std.specs.Prelude.{ℕ, Bool, ◌&&◌, ◌||◌, List, Option, Some, None, length}
use Rattle.std.specs.Option.{is_none, is_some}
use Rattle.source.specs.declared.token.Token.{Token}
use Rattle.lsp_texts.specs.Names.{text_at}
use Rattle.lsp_texts.specs.Declarations.{first, is_number, is_text, is_top, owner_at}

-- both are missing, or both are there and equal
abbrev pub are_same : Option ℕ → Option ℕ → Bool
are_same None other = is_none other
are_same (Some n) other = is_number n other

-- the token at `at` may have the meaning of the declared one: anywhere, where that one is of the top level, otherwise
-- in its enclosing declaration; or the token is of the top level itself
abbrev pub may_meet : List Token → ℕ → ℕ → Bool
may_meet tokens declared at = is_top tokens at || is_top tokens declared || are_same (owner_at tokens declared) (owner_at tokens at)

-- the token has this text, and may have the meaning of the declared one
abbrev pub takes : List Token → ℕ → List ℕ → ℕ → Bool
takes tokens declared text at = is_text text (text_at tokens at) && may_meet tokens declared at

-- the name `text` already stands where both may be meant
abbrev pub is_taken : List Token → ℕ → List ℕ → Bool
is_taken tokens declared text = is_some (first (takes tokens declared text) (length tokens))
