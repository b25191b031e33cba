-- The links of a text's names, as the protocol's JSON.
use Rattle.std.specs.Prelude.{ℕ, zero, suc, ◌+◌, Bool, false, not, ◌&&◌, ◌||◌, ◌==◌, nat_le, List, [], ◌∷◌, ◌++◌, codes, length, map, Option, Some, None, option_map, option_and_then, slice_index_or, if◌then◌else◌}
use Rattle.std.specs.List.{position}
use Rattle.std.specs.Rc.{rc_str_bytes}
use Rattle.serde_json.specs.Data.{Data, array, null, object, string, member, no_members}
use Rattle.serde_json.specs.View.{items_of}
use Rattle.source.specs.declared.token.Token.{Token}
use Rattle.source.specs.declared.token.Token.TheVariants as token
use Rattle.lsp_texts.specs.Declarations.{declarations, is_number}
use Rattle.lsp_texts.specs.Positions.{offset_of}
use Rattle.lsp_texts.specs.declared.walking.Position.{Position}
use Rattle.lsp_texts.specs.DocumentSymbols.{name_range}

-- ---- the meaning at a position

-- the token is a name that contains the byte, or ends just before it
abbrev pub holds : ℕ → Token → Bool
holds byte (token.Name start text) = nat_le start byte && nat_le byte (start + length (rc_str_bytes text))
holds byte _ = false

-- the token that declares the name of this one
abbrev pub declaration : List Token → ℕ → Option ℕ
declaration tokens at = slice_index_or (declarations tokens) at None

-- the name at a position
abbrev pub name_number : List ℕ → Position → List Token → Option ℕ
name_number text place tokens = position (holds (offset_of text place)) tokens

-- the token that declares the name at a position
unfoldable pub declaration_at : List ℕ → Position → List Token → Option ℕ
declaration_at text place tokens = option_and_then (declaration tokens) (name_number text place tokens)

-- ---- the tokens that mean the same

-- the name of the token is declared by `declared`; `itself` says whether the declaring token counts
abbrev pub is_reference : List Token → Bool → ℕ → ℕ → Bool
is_reference tokens itself declared at = is_number declared (declaration tokens at) && (itself || not (at == declared))

-- the references among the first tokens
unfoldable pub references_in : List Token → Bool → ℕ → ℕ → List ℕ
references_in tokens itself declared zero = []
references_in tokens itself declared (suc n) =
    references_in tokens itself declared n ++ (if is_reference tokens itself declared n then n ∷ [] else [])

-- the tokens that mean what this one declares; the declaring token is among them only if `itself` says so
abbrev pub references : List Token → Bool → ℕ → List ℕ
references tokens itself declared = references_in tokens itself declared (length tokens)

-- ---- the answers

-- the answer, or `null` where it is missing
abbrev pub or_null : Option Data → Data
or_null None = null
or_null (Some told) = told

-- {"range":RANGE,"uri":URI}
abbrev pub location_data : List ℕ → List ℕ → List Token → ℕ → Data
location_data uri text tokens at =
    object (member (codes "range") (name_range text tokens at) (member (codes "uri") (string uri) no_members))

-- the place where the name at a position is declared
abbrev pub definition_data : List ℕ → List ℕ → Position → List Token → Data
definition_data uri text place tokens = or_null (option_map (location_data uri text tokens) (declaration_at text place tokens))

-- the tokens that mean what the given one declares; none where none is given
abbrev pub references_of : List Token → Bool → Option ℕ → List ℕ
references_of tokens itself None = []
references_of tokens itself (Some declared) = references tokens itself declared

-- the places of the names that mean the same as the name at a position
abbrev pub references_data : List ℕ → List ℕ → Position → Bool → List Token → Data
references_data uri text place itself tokens =
    array (items_of (map (location_data uri text tokens) (references_of tokens itself (declaration_at text place tokens))))
