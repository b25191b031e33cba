-- The lock that belongs to a name's declaration.
use Rattle.std.specs.Prelude.{ℕ, ◌-◌, Bool, true, false, ◌==◌, nat_le, List, [], ◌++◌, codes, fold, Option, Some, None, option_and_then, option_map, slice_index_or, unwrap_or, if◌then◌else◌}
use Rattle.source.specs.declared.token.Keyword.{Keyword}
use Rattle.source.specs.declared.token.Keyword.TheVariants as word
use Rattle.source.specs.declared.token.Token.{Token}
use Rattle.lsp_texts.specs.Names.{symbols, text_at, word_at}
use Rattle.lsp_texts.specs.declared.names.Symbol.{Symbol}
use Rattle.lsp_texts.specs.Declarations.{declarations}
use Rattle.lsp_texts.specs.Extents.{end_token}

-- ---- the lock

-- the keyword is `lock`
abbrev pub is_lock_word : Option Keyword → Bool
is_lock_word (Some word.Lock) = true
is_lock_word _ = false

-- the keyword is `atomic`
abbrev pub is_atomic : Option Keyword → Bool
is_atomic (Some word.Atomic) = true
is_atomic _ = false

-- the token, if it is the name of a declared lock
abbrev pub if_lock : List Token → ℕ → Option ℕ
if_lock tokens at = if is_lock_word (word_at tokens (at - 1)) then Some at else None

-- the token that declares the last name of the declaration's annotation: it stands before the last `)`; a section has no
-- annotation, but a list of classes
abbrev pub annotated : List Token → ℕ → Option ℕ
annotated tokens at =
    if is_atomic (word_at tokens (at - 1)) then None else slice_index_or (declarations tokens) (end_token tokens at - 2) None

-- the token that declares the lock: this one, or the one that the annotation names
abbrev pub lock_of : List Token → ℕ → Option ℕ
lock_of tokens at =
    if is_lock_word (word_at tokens (at - 1)) then Some at else option_and_then (if_lock tokens) (annotated tokens at)

-- ---- its class

-- the last name of the top level up to a token
abbrev pub later : ℕ → Option ℕ → Symbol → Option ℕ
later at found symbol = if nat_le symbol.at at then Some symbol.at else found

-- the last name of the top level that stands at the token or before it
abbrev pub holder_of : List Token → ℕ → Option ℕ
holder_of tokens at = fold (later at) None (symbols tokens)

-- the text of a name; empty where the token is not a name
abbrev pub name_text : List Token → ℕ → List ℕ
name_text tokens at = unwrap_or (text_at tokens at) []

-- a lock of a struct after the struct's name: `S.l`
abbrev pub member_text : List Token → ℕ → ℕ → List ℕ
member_text tokens at owner =
    if owner == at then name_text tokens at else name_text tokens owner ++ codes "." ++ name_text tokens at

-- the class of a lock, by the name of the top level that encloses it, if there is one
abbrev pub class_text : List Token → ℕ → Option ℕ → List ℕ
class_text tokens at None = name_text tokens at
class_text tokens at (Some owner) = member_text tokens at owner

-- the class of the lock that belongs to the declaration of this name, as `G` or `S.l`
abbrev pub class_of : List Token → ℕ → Option (List ℕ)
class_of tokens declared = option_map (λ at. class_text tokens at (holder_of tokens at)) (lock_of tokens declared)
