-- The edits that bring a text into its layout, as the protocol's JSON.
use Rattle.std.specs.Prelude.{◌≡◌, ℕ, List, [], ◌∷◌, IsUtf8, codes, length}
use Rattle.serde_json.specs.Data.{Data, array, no_items, null, object, string, member, no_members}
use Rattle.serde_json.specs.View.{items_of}
use Rattle.formatting.specs.Formatted.{IsFormatted, IsProgram}
use Rattle.lsp_texts.specs.Ranges.{range_data}

-- the text is a program, and this is its layout
pub record HasLayout (text out : List ℕ) : Type 0 where
  pub program : IsProgram text
  pub formatted : IsFormatted text out

-- {"newText":TEXT,"range":RANGE}: another text in place of the whole one
abbrev pub whole_edit_data : List ℕ → List ℕ → Data
whole_edit_data text new =
    object (member (codes "newText") (string new) (member (codes "range") (range_data text 0 (length text)) no_members))

-- the edit that replaces the whole text by another, as the only one of a list
abbrev pub whole_data : List ℕ → List ℕ → Data
whole_data text new = array (items_of (whole_edit_data text new ∷ []))

-- no edit of a text that is its own layout, otherwise that of the whole text; `null` where no layout of the text is
-- UTF-8
pub data AreEditsOf (text : List ℕ) : Data → Type 0 where
  kept : HasLayout text text → AreEditsOf text (array no_items)
  changed : {out : List ℕ} → HasLayout text out → (out ≡ text → ⊥) → AreEditsOf text (whole_data text out)
  none : ((out : List ℕ) → HasLayout text out → IsUtf8 out → ⊥) → AreEditsOf text null
