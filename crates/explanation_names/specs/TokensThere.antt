-- The tokens at a place.
use Rattle.std.specs.Prelude.{ℕ, ◌+◌, ◌==◌, ◌&&◌, Bool, true, false, List, slice_get, Option, Some, None}
use Rattle.resolution.specs.Scopes.{◌>>=◌, place_from}
use Rattle.source.specs.Tokens.{Lexeme, Tok, name, mark}
use Rattle.source.specs.declared.token.Sign.TheVariants.{Dot}

-- the index of the token that starts at the byte
abbrev pub token_at : ℕ → List Tok → Option ℕ
token_at at tokens = place_from (λ (t : Tok). t.span.start == at) 0 tokens

-- the name of a token, if it is one
abbrev pub name_in : Lexeme → Option (List ℕ)
name_in (name text) = Some text
name_in _ = None

-- the token is a dot
abbrev pub is_dot : Lexeme → Bool
is_dot (mark Dot) = true
is_dot _ = false

-- the name of a token that was found
abbrev pub name_of : Option Tok → Option (List ℕ)
name_of (Some t) = name_in t.kind
name_of None = None

-- the name that begins at a byte
abbrev pub name_there : ℕ → List Tok → Option (List ℕ)
name_there at tokens = token_at at tokens >>= λ i. name_of (slice_get tokens i)

-- the token that was found is a dot
abbrev pub has_dot : Option Tok → Bool
has_dot (Some t) = is_dot t.kind
has_dot None = false

-- at least two fields follow the name with this index, as in a.b.c
abbrev pub has_two_fields : ℕ → List Tok → Bool
has_two_fields i tokens = has_dot (slice_get tokens (i + 1)) && has_dot (slice_get tokens (i + 3))
