-- The parameters of the notifications about documents.
use Rattle.std.specs.Prelude.{ℕ, List, codes, Option, Some, None, option_and_then}
use Rattle.serde_json.specs.Data.{Data, Items, no_items, item}
use Rattle.serde_json.specs.Find.{get, as_str, as_array}

-- the string in a member
abbrev pub text_in : List ℕ → Data → Option (List ℕ)
text_in name value = option_and_then as_str (get name value)

-- the URI of the document
abbrev pub document_uri : Data → Option (List ℕ)
document_uri params = option_and_then (text_in (codes "uri")) (get (codes "textDocument") params)

-- the text of an opened document
abbrev pub opened_text : Data → Option (List ℕ)
opened_text params = option_and_then (text_in (codes "text")) (get (codes "textDocument") params)

-- the last item of a list
abbrev pub last_of : Items → Option Data
last_of no_items = None
last_of (item d no_items) = Some d
last_of (item d (item e es)) = last_of (item e es)

-- the text of the last change
abbrev pub last_text : Data → Option (List ℕ)
last_text changes = option_and_then (λ all. option_and_then (text_in (codes "text")) (last_of all)) (as_array changes)

-- the text after all changes: each is a whole text, so that the last one stays
abbrev pub changed_text : Data → Option (List ℕ)
changed_text params = option_and_then last_text (get (codes "contentChanges") params)
