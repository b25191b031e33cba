-- The changes of a rename, as the protocol's JSON.
use Rattle.std.specs.Prelude.{ℕ, true, List, codes, map, Option, Some, None, option_and_then, option_map, if◌then◌else◌}
use Rattle.serde_json.specs.Data.{Data, array, object, string, member, no_members}
use Rattle.serde_json.specs.View.{items_of}
use Rattle.source.specs.Texts.{IsUnit, IsWithin}
use Rattle.source.specs.Tokens.{name}
use Rattle.source.specs.declared.token.Token.{Token}
use Rattle.lsp_texts.specs.Taken.{is_taken}
use Rattle.lsp_texts.specs.declared.walking.Position.{Position}
use Rattle.lsp_texts.specs.DocumentSymbols.{name_range}
use Rattle.lsp_texts.specs.Links.{declaration_at, or_null, references}

-- a name of the language, within its limit
abbrev pub IsName : List ℕ → Type 0
IsName text = IsUnit text (name text) × IsWithin (name text)

-- {"newText":NAME,"range":RANGE}
abbrev pub edit_data : List ℕ → List ℕ → List Token → ℕ → Data
edit_data new text tokens at =
    object (member (codes "newText") (string new) (member (codes "range") (name_range text tokens at) no_members))

-- {"changes":{URI:[EDIT..]}}: the edits of all tokens that mean what this one declares
abbrev pub edits_data : List ℕ → List ℕ → List ℕ → List Token → ℕ → Data
edits_data uri text new tokens declared =
    object (member (codes "changes")
    (object (member uri (array (items_of (map (edit_data new text tokens) (references tokens true declared)))) no_members)) no_members)

-- the declaring token, if the new name is not taken
abbrev pub unless_taken : List Token → List ℕ → ℕ → Option ℕ
unless_taken tokens new declared = if is_taken tokens declared new then None else Some declared

-- the name at a position gets a new text, if that is not taken
abbrev pub rename_data : List ℕ → List ℕ → Position → List ℕ → List Token → Data
rename_data uri text place new tokens =
    or_null (option_map (edits_data uri text new tokens) (option_and_then (unless_taken tokens new) (declaration_at text place tokens)))
