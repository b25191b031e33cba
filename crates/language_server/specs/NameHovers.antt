-- The hover on the name at a position, as the protocol's JSON.
use Rattle.std.specs.Prelude.{◌≡◌, ℕ, List, ◌++◌, codes, Option, Some, None}
use Rattle.serde_json.specs.Data.{Data, object, string, member, no_members}
use Rattle.code.specs.Listing.{line}
use Rattle.lsp_texts.specs.Classes.{class_of}
use Rattle.lsp_texts.specs.Lines.{declaration_line}
use Rattle.language_server.specs.Ranks.{IsLockLine}
use Rattle.lsp_texts.specs.Links.{declaration, declaration_at, name_number}
use Rattle.lsp_texts.specs.Told.{HasFault}
use Rattle.lsp_texts.specs.declared.walking.Position.{Position}
use Rattle.lsp_texts.specs.DocumentSymbols.{name_range}
use Rattle.source.specs.Texts.{HasTokens}
use Rattle.source.specs.Tokens.{seen}
use Rattle.source.specs.declared.token.Token.{Token}

-- the declaration as a block of the language, and the line of its lock after it
abbrev pub markdown : List ℕ → List ℕ → List ℕ
markdown declared lock = line (codes "```autolock") ++ line declared ++ line (codes "```") ++ lock

-- {"contents":{"kind":"markdown","value":VALUE},"range":RANGE}
abbrev pub name_hover : Data → List ℕ → Data
name_hover range value =
    object (member (codes "contents")
    (object (member (codes "kind") (string (codes "markdown")) (member (codes "value") (string value) no_members)))
    (member (codes "range") range no_members))

-- the hover on the name that the token `at` is and the token `declared` declares
pub record IsNameTold (text : List ℕ) (tokens : List Token) (at declared : ℕ) (told : Data) : Type 0 where
  pub lock : List ℕ
  pub is_lock : IsLockLine text (class_of tokens declared) lock
  pub is_told : told ≡ name_hover (name_range text tokens at) (markdown (declaration_line tokens declared) lock)

-- the hover of the declared name at the position; without such a name, or in a text with a lexical fault, there is no
-- hover
pub data IsNameHoverOf (text : List ℕ) (place : Position) : Option Data → Type 0 where
  named : {told : Data} (tokens : List Token) (at declared : ℕ) → HasTokens text (seen tokens) →
      name_number text place tokens ≡ Some at → declaration tokens at ≡ Some declared →
      IsNameTold text tokens at declared told → IsNameHoverOf text place (Some told)
  unnamed : (tokens : List Token) → HasTokens text (seen tokens) → declaration_at text place tokens ≡ None →
      IsNameHoverOf text place None
  untold : HasFault text → IsNameHoverOf text place None
