-- The names that the tokens of a text declare. A name is given by its number among the tokens.
use Rattle.std.specs.Prelude.{ℕ, zero, suc, ◌-◌, ◌+◌, Bool, true, false, ◌&&◌, ◌==◌, List, [], ◌++◌, Option, Some, None, option_map, option_and_then, length, if◌then◌else◌}
use Rattle.std.specs.Option.{is_some, option_to_list}
use Rattle.std.specs.Rc.{rc_str_bytes}
use Rattle.std.specs.List.{slice_get}
use Rattle.source.specs.declared.token.Keyword.{Keyword}
use Rattle.source.specs.declared.token.Keyword.TheVariants as word
use Rattle.source.specs.declared.token.Sign.{Sign}
use Rattle.source.specs.declared.token.Sign.TheVariants as sign
use Rattle.source.specs.declared.token.Token.{Token}
use Rattle.source.specs.declared.token.Token.TheVariants as token
use Rattle.lsp_texts.specs.declared.names.SymbolKind.{SymbolKind}
use Rattle.lsp_texts.specs.declared.names.SymbolKind.TheVariants as kind
use Rattle.lsp_texts.specs.declared.names.Symbol.{Symbol}

-- ---- single tokens

-- the keyword that a token is, if it is one
abbrev pub word_in : Token → Option Keyword
word_in (token.Word span w) = Some w
word_in _ = None

-- the sign that a token is, if it is one
abbrev pub sign_in : Token → Option Sign
sign_in (token.Mark span s) = Some s
sign_in _ = None

-- the text of the name that a token is, if it is one
abbrev pub text_in : Token → Option (List ℕ)
text_in (token.Name start text) = Some (rc_str_bytes text)
text_in _ = None

-- the keyword that the token of this number is, if it is one
abbrev pub word_at : List Token → ℕ → Option Keyword
word_at tokens at = option_and_then word_in (slice_get tokens at)

-- the sign that the token of this number is, if it is one
abbrev pub sign_at : List Token → ℕ → Option Sign
sign_at tokens at = option_and_then sign_in (slice_get tokens at)

-- the text of the name that the token of this number is, if it is one
abbrev pub text_at : List Token → ℕ → Option (List ℕ)
text_at tokens at = option_and_then text_in (slice_get tokens at)

-- ---- the tokens before a name

-- the keyword is `global`
abbrev pub is_global : Option Keyword → Bool
is_global (Some word.Global) = true
is_global _ = false

-- the kind of a name with this keyword directly before it and `far` before that
abbrev pub kind_behind : Keyword → Option Keyword → Option SymbolKind
kind_behind word.Lock far = Some kind.Lock
kind_behind word.Struct far = Some kind.Struct
kind_behind word.Atomic far = Some kind.Section
kind_behind word.Call far = Some kind.Helper
kind_behind word.Thread far = Some kind.Thread
kind_behind word.Int far = if is_global far then Some kind.Global else None
kind_behind _ far = None

-- the kind of a name that a type's name stands before, with this keyword before the type's name and `far` before that
abbrev pub kind_behind_name : Option Keyword → Option Keyword → Option SymbolKind
kind_behind_name (Some word.Pool) far = Some kind.Pool
kind_behind_name (Some word.Ref) far = if is_global far then Some kind.Global else None
kind_behind_name _ far = None

-- a word stands before the name, or a name and then a word
abbrev pub declared_so : Option Keyword → Option (List ℕ) → Option Keyword → Option Keyword → Option SymbolKind
declared_so (Some near) text far farther = kind_behind near far
declared_so None (Some text) far farther = kind_behind_name far farther
declared_so None None far farther = None

-- the kind of the name, given the three tokens before it, if it stands at the top level
abbrev pub declared : List Token → ℕ → Option SymbolKind
declared tokens at = declared_so (word_at tokens (at - 1)) (text_at tokens (at - 1)) (word_at tokens (at - 2)) (word_at tokens (at - 3))

-- ---- the top level

-- the number of enclosing braces after this token, from the number before it
abbrev pub depth_behind : ℕ → Option Sign → ℕ
depth_behind depth None = depth
depth_behind depth (Some sign.OpenBrace) = depth + 1
depth_behind depth (Some sign.CloseBrace) = depth - 1
depth_behind depth (Some _) = depth

-- the number of braces that enclose a token: those before it that are open
unfoldable pub depth_at : List Token → ℕ → ℕ
depth_at tokens zero = 0
depth_at tokens (suc n) = depth_behind (depth_at tokens n) (sign_at tokens n)

-- a name of this kind at this token, if there is a kind
abbrev pub symbol_of : ℕ → Option SymbolKind → Option Symbol
symbol_of at kind = option_map (λ k. record { at = at; kind = k }) kind

-- the name of the top level that the token is, if it is one and no brace encloses it
abbrev pub symbol_at : List Token → ℕ → ℕ → Option Symbol
symbol_at tokens depth at = if (depth == 0) && is_some (text_at tokens at) then symbol_of at (declared tokens at) else None

-- the names among the first tokens
unfoldable pub symbols_in : List Token → ℕ → List Symbol
symbols_in tokens zero = []
symbols_in tokens (suc n) = symbols_in tokens n ++ option_to_list (symbol_at tokens (depth_at tokens n) n)

-- the names of the top level, in order
abbrev pub symbols : List Token → List Symbol
symbols tokens = symbols_in tokens (length tokens)
