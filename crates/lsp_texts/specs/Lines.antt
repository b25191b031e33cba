-- The declaration of a name on one line.
use Rattle.std.specs.Prelude.{ℕ, ◌-◌, Bool, true, false, ◌||◌, ◌==◌, List, [], ◌++◌, codes, Option, Some, None, if◌then◌else◌}
use Rattle.std.specs.Fmt.{decimal}
use Rattle.std.specs.List.{flat_map, range_with_len, slice_get}
use Rattle.std.specs.Rc.{rc_str_bytes}
use Rattle.source.specs.Texts.{keyword_text, sign_text}
use Rattle.source.specs.declared.token.Sign.{Sign}
use Rattle.source.specs.declared.token.Sign.TheVariants as sign
use Rattle.source.specs.declared.token.Token.{Token}
use Rattle.source.specs.declared.token.Token.TheVariants as token
use Rattle.lsp_texts.specs.Names.{sign_at}
use Rattle.lsp_texts.specs.Extents.{end_token, first_token}

-- a token as it is written, without leading zeros
abbrev pub token_text : Token → List ℕ
token_text (token.Name start text) = rc_str_bytes text
token_text (token.Int span value) = decimal value
token_text (token.Large number) = decimal number.value.value
token_text (token.Word span w) = keyword_text w
token_text (token.Mark span s) = sign_text s
token_text (token.End at) = []

-- ---- the text between two tokens

-- no space stands after this sign
abbrev pub is_tight_behind : Option Sign → Bool
is_tight_behind (Some sign.OpenParen) = true
is_tight_behind (Some sign.OpenBracket) = true
is_tight_behind (Some sign.Dot) = true
is_tight_behind _ = false

-- no space stands before `next`, after this sign: a colon has a space before it where it begins the type of a result
abbrev pub is_tight_before : Option Sign → Option Sign → Bool
is_tight_before last (Some sign.OpenParen) = true
is_tight_before last (Some sign.CloseParen) = true
is_tight_before last (Some sign.OpenBracket) = true
is_tight_before last (Some sign.CloseBracket) = true
is_tight_before last (Some sign.Comma) = true
is_tight_before last (Some sign.Dot) = true
is_tight_before (Some sign.CloseParen) (Some sign.Colon) = false
is_tight_before last (Some sign.Colon) = true
is_tight_before last _ = false

-- no text, or a space
abbrev pub gap : Option Sign → Option Sign → List ℕ
gap last next = if is_tight_behind last || is_tight_before last next then [] else codes " "

-- ---- the line

-- the text before a token; empty before the first
abbrev pub gap_before : List Token → ℕ → ℕ → List ℕ
gap_before tokens first at = if at == first then [] else gap (sign_at tokens (at - 1)) (sign_at tokens at)

-- the text of a token; empty where no token is there
abbrev pub text_in : Option Token → List ℕ
text_in None = []
text_in (Some t) = token_text t

-- the token after the text before it
abbrev pub piece : List Token → ℕ → ℕ → List ℕ
piece tokens first at = gap_before tokens first at ++ text_in (slice_get tokens at)

-- the tokens from `first` up to `end`
abbrev pub line_between : List Token → ℕ → ℕ → List ℕ
line_between tokens first end = flat_map (piece tokens first) (range_with_len first (end - first))

-- the tokens of a declaration on one line
abbrev pub declaration_line : List Token → ℕ → List ℕ
declaration_line tokens at = line_between tokens (first_token tokens at) (end_token tokens at)
