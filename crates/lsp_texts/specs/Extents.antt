-- The tokens of the declaration of a name. A name is given by its number among the tokens.
use Rattle.std.specs.Prelude.{ℕ, ◌-◌, ◌+◌, Bool, true, false, List, drop, Option, Some, if◌then◌else◌}
use Rattle.std.specs.List.{prefix_len}
use Rattle.std.specs.Option.{is_some}
use Rattle.source.specs.declared.token.Keyword.{Keyword}
use Rattle.source.specs.declared.token.Keyword.TheVariants as word
use Rattle.source.specs.declared.token.Sign.{Sign}
use Rattle.source.specs.declared.token.Sign.TheVariants as sign
use Rattle.source.specs.declared.token.Token.{Token}
use Rattle.source.specs.declared.token.Token.TheVariants as token
use Rattle.lsp_texts.specs.Names.{sign_at, text_at, word_at}

-- ---- the start

-- the word may stand before the word of a kind: `global int`, `final ref`
abbrev pub is_global_or_final : Option Keyword → Bool
is_global_or_final (Some word.Global) = true
is_global_or_final (Some word.Final) = true
is_global_or_final _ = false

-- the type's name, where one stands before the name, as in `ref S x` and `pool S x`; otherwise the name
abbrev pub type_token : List Token → ℕ → ℕ
type_token tokens at = if is_some (text_at tokens (at - 1)) then at - 1 else at

-- where the declaration of a name begins: the word before its type or name, or `global` or `final` before that word
abbrev pub first_token : List Token → ℕ → ℕ
first_token tokens at =
    let kind = type_token tokens at - 1 in if is_global_or_final (word_at tokens (kind - 1)) then kind - 1 else kind

-- ---- the end

-- `,` or `)`: it ends a parameter
abbrev pub ends_parameter : Option Sign → Bool
ends_parameter (Some sign.Comma) = true
ends_parameter (Some sign.CloseParen) = true
ends_parameter _ = false

-- `int`, `ref`, `protected_by`, or the `lock` of a section's list of classes
abbrev pub is_type_word : Keyword → Bool
is_type_word word.Int = true
is_type_word word.Ref = true
is_type_word word.ProtectedBy = true
is_type_word word.Lock = true
is_type_word _ = false

-- parentheses, brackets, `,`, `:` or `.`
abbrev pub is_type_sign : Sign → Bool
is_type_sign sign.OpenParen = true
is_type_sign sign.CloseParen = true
is_type_sign sign.OpenBracket = true
is_type_sign sign.CloseBracket = true
is_type_sign sign.Comma = true
is_type_sign sign.Colon = true
is_type_sign sign.Dot = true
is_type_sign _ = false

-- the token may stand after the name in parameters, types, lengths, annotations and lists of classes: not a value, a body or an end
abbrev pub continues : Token → Bool
continues (token.Name start text) = true
continues (token.Int span value) = true
continues (token.Large number) = true
continues (token.Word span w) = is_type_word w
continues (token.Mark span s) = is_type_sign s
continues (token.End at) = false

-- the number of tokens of the declaration after the name: none after a parameter's name
abbrev pub more_tokens : List Token → ℕ → ℕ
more_tokens tokens at = if ends_parameter (sign_at tokens (at + 1)) then 0 else prefix_len continues (drop (at + 1) tokens)

-- where the declaration of a name ends: the token after the declaration
abbrev pub end_token : List Token → ℕ → ℕ
end_token tokens at = at + 1 + more_tokens tokens at
