-- The token that declares the name of a token. A name is given by its number among the tokens.
use Rattle.std.specs.Prelude.{ℕ, zero, suc, ◌-◌, ◌+◌, Bool, true, false, not, ◌&&◌, ◌||◌, ◌==◌, List, [], ◌∷◌, ◌++◌, Option, Some, None, option_and_then, length, slice_index_or, if◌then◌else◌}
use Rattle.std.specs.Option.{is_some, option_or}
use Rattle.std.specs.Str.{bytes_eq}
use Rattle.source.specs.declared.token.Keyword.{Keyword}
use Rattle.source.specs.declared.token.Keyword.TheVariants as word
use Rattle.source.specs.declared.token.Sign.{Sign}
use Rattle.source.specs.declared.token.Sign.TheVariants as sign
use Rattle.source.specs.declared.token.Token.{Token}
use Rattle.lsp_texts.specs.Names.{word_at, sign_at, text_at, depth_at, symbol_at}

-- ---- single tokens

-- the keyword is `ref`
abbrev pub is_ref : Option Keyword → Bool
is_ref (Some word.Ref) = true
is_ref _ = false

-- the keyword is `let`
abbrev pub is_let : Option Keyword → Bool
is_let (Some word.Let) = true
is_let _ = false

-- the keyword is `where`
abbrev pub is_where : Option Keyword → Bool
is_where (Some word.Where) = true
is_where _ = false

-- the keyword is `struct`
abbrev pub is_struct : Option Keyword → Bool
is_struct (Some word.Struct) = true
is_struct _ = false

-- the sign is `.`
abbrev pub is_dot : Option Sign → Bool
is_dot (Some sign.Dot) = true
is_dot _ = false

-- the sign is `:`
abbrev pub is_colon : Option Sign → Bool
is_colon (Some sign.Colon) = true
is_colon _ = false

-- the sign is `]`
abbrev pub is_close_bracket : Option Sign → Bool
is_close_bracket (Some sign.CloseBracket) = true
is_close_bracket _ = false

-- the sign is `[`
abbrev pub is_open_bracket : Option Sign → Bool
is_open_bracket (Some sign.OpenBracket) = true
is_open_bracket _ = false

-- the second is a text, and the same as the first
abbrev pub is_text : List ℕ → Option (List ℕ) → Bool
is_text text None = false
is_text text (Some other) = bytes_eq other text

-- the second is a number, and the same as the first
abbrev pub is_number : ℕ → Option ℕ → Bool
is_number n None = false
is_number n (Some other) = other == n

-- ---- declaring tokens

-- the token declares a name of the top level
abbrev pub is_top : List Token → ℕ → Bool
is_top tokens at = is_some (symbol_at tokens (depth_at tokens at) at)

-- this word stands before a name that it declares
abbrev pub declares : Option Keyword → Bool
declares (Some word.Lock) = true
declares (Some word.Let) = true
declares (Some word.Var) = true
declares (Some word.Int) = true
declares _ = false

-- one of these words stands before the token, or `ref` and a name
abbrev pub is_declared : List Token → ℕ → Bool
is_declared tokens at = declares (word_at tokens (at - 1)) || (is_some (text_at tokens (at - 1)) && is_ref (word_at tokens (at - 2)))

-- the token declares a parameter, a `let`, a `var` or a member
abbrev pub is_inner : List Token → ℕ → Bool
is_inner tokens at = is_some (text_at tokens at) && not (is_top tokens at) && is_declared tokens at

-- the name of the top level whose declaration encloses a token: the last one before it
unfoldable pub owner_at : List Token → ℕ → Option ℕ
owner_at tokens zero = None
owner_at tokens (suc n) = if is_top tokens n then Some n else owner_at tokens n

-- the name after the last `let` before a token
unfoldable pub bound_at : List Token → ℕ → Option ℕ
bound_at tokens zero = None
bound_at tokens (suc n) = if is_let (word_at tokens n) then Some (suc n) else bound_at tokens n

-- ---- the declaration of a name: the first of several tokens counts

-- the first number below this one that passes the test
unfoldable pub first : (ℕ → Bool) → ℕ → Option ℕ
first test zero = None
first test (suc n) = option_or (first test n) (if test n then Some n else None)

-- the token declares this name at the top level
abbrev pub is_top_of : List Token → List ℕ → ℕ → Bool
is_top_of tokens text at = is_top tokens at && is_text text (text_at tokens at)

-- the token declares this name within the declaration of this name of the top level
abbrev pub is_inner_of : List Token → ℕ → List ℕ → ℕ → Bool
is_inner_of tokens owner text at = is_inner tokens at && is_number owner (owner_at tokens at) && is_text text (text_at tokens at)

-- the declaration at the top level
unfoldable pub top : List Token → List ℕ → Option ℕ
top tokens text = first (is_top_of tokens text) (length tokens)

-- the declaration in that of this name of the top level
unfoldable pub inner : List Token → ℕ → List ℕ → Option ℕ
inner tokens owner text = first (is_inner_of tokens owner text) (length tokens)

-- the struct's name in the type of what a token declares: `ref S x`, `pool S x`, `x: ref S`
unfoldable pub type_at : List Token → ℕ → Option (List ℕ)
type_at tokens at =
    option_or (text_at tokens (at - 1))
    (if is_colon (sign_at tokens (at + 1)) && is_ref (word_at tokens (at + 2)) then text_at tokens (at + 3) else None)

-- the struct that a token declares, or else the one in the type of what it declares
unfoldable pub struct_at : List Token → ℕ → Option (List ℕ)
struct_at tokens at = if is_struct (word_at tokens (at - 1)) then text_at tokens at else type_at tokens at

-- the declaration of this name in a declaration of the top level, if that is of a struct
abbrev pub member_of : List Token → List ℕ → ℕ → Option ℕ
member_of tokens text owner = if is_struct (word_at tokens (owner - 1)) then inner tokens owner text else None

-- the declaration in the struct that this token declares, or that is in the type of what it declares
unfoldable pub member : List Token → List ℕ → Option ℕ → Option ℕ
member tokens text holder =
    option_and_then (member_of tokens text) (option_and_then (top tokens) (option_and_then (struct_at tokens) holder))

-- ---- the meaning of a name

-- the token before the dot that precedes this one, as `a` of `a.x` and `S` of `lock(S.l)`; for an element `x[i]` it is
-- the name
unfoldable pub holder_at : List Token → ℕ → ℕ
holder_at tokens at = if is_close_bracket (sign_at tokens (at - 2)) && is_open_bracket (sign_at tokens (at - 4)) then at - 5 else at - 2

-- it means a name of the top level, whatever is declared in the enclosing declaration: a type, or what no braces
-- enclose and declares nothing
abbrev pub is_outer : List Token → ℕ → Bool
is_outer tokens at = is_ref (word_at tokens (at - 1)) || ((depth_at tokens at == 0) && not (is_inner tokens at))

-- the declaration in the enclosing declaration, or else at the top level
abbrev pub plain : List Token → ℕ → List ℕ → Option ℕ
plain tokens at text =
    if is_outer tokens at then top tokens text
    else option_or (option_and_then (λ owner. inner tokens owner text) (owner_at tokens at)) (top tokens text)

-- a name after a dot or `where` is a member; `before` has the declarations of the tokens before it
abbrev pub declaration_by : List Token → List (Option ℕ) → ℕ → List ℕ → Option ℕ
declaration_by tokens before at text =
    if is_dot (sign_at tokens (at - 1)) then member tokens text (slice_index_or before (holder_at tokens at) None)
    else if is_where (word_at tokens (at - 1)) then member tokens text (bound_at tokens at)
    else plain tokens at text

-- the declaration of the name that a token is; none where it is not a name
abbrev pub declaration_of : List Token → List (Option ℕ) → ℕ → Option ℕ
declaration_of tokens before at = option_and_then (declaration_by tokens before at) (text_at tokens at)

-- the declarations of the names of the first tokens
unfoldable pub declarations_in : List Token → ℕ → List (Option ℕ)
declarations_in tokens zero = []
declarations_in tokens (suc n) = let before = declarations_in tokens n in before ++ declaration_of tokens before n ∷ []

-- for each token the one that declares its name; none where it is not a name, or no such name is declared
abbrev pub declarations : List Token → List (Option ℕ)
declarations tokens = declarations_in tokens (length tokens)
