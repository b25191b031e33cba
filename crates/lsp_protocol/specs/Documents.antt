-- The texts of the open documents, by their URIs.
use Rattle.std.specs.Prelude.{◌≡◌, ℕ, List, Option, option_map, string_bytes, if◌then◌else◌}
use Rattle.std.specs.BTreeMap.{get_by_text}
use Rattle.std.specs.Str.{bytes_eq}
use Rattle.lsp_protocol.specs.declared.documents.Documents.{Documents}

-- the text of each open document, by its URI
abbrev pub Texts : Type 0
Texts = List ℕ → Option (List ℕ)

-- the texts of the open documents
abbrev pub text_at : Documents → Texts
text_at documents uri = option_map string_bytes (get_by_text documents.texts uri)

-- the texts are the same except that of the document with this URI, which is this one, or is closed
abbrev pub IsSetTo : Texts → Texts → List ℕ → Option (List ℕ) → Type 0
IsSetTo old new uri text = (other : List ℕ) → new other ≡ (if bytes_eq uri other then text else old other)

-- the texts are the same
abbrev pub AreSame : Texts → Texts → Type 0
AreSame old new = (uri : List ℕ) → new uri ≡ old uri
