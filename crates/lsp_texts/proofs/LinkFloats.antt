-- The answers have no numbers with a fraction, so their texts are known.
use Rattle.std.proofs.Common.{◌≡◌, ℕ, List, [], ◌∷◌, true, false, Option, Some, None, map, refl, ap}
use Rattle.std.specs.Prelude.{◌||◌, option_map}
use Rattle.serde_json.specs.Data.{array}
use Rattle.serde_json.specs.View.{items_of}
use Rattle.serde_json.specs.Written.{has_float}
use Rattle.source.specs.declared.token.Token.{Token}
use Rattle.lsp_texts.specs.Links.{location_data, or_null, references}
use Rattle.lsp_texts.specs.Renames.{edit_data, edits_data}

pub none_in_location : (uri text : List ℕ) (tokens : List Token) (found : Option ℕ) →
    has_float (or_null (option_map (location_data uri text tokens) found)) ≡ false
none_in_location uri text tokens None = refl
none_in_location uri text tokens (Some at) = refl

pub none_in_locations : (uri text : List ℕ) (tokens : List Token) (found : List ℕ) →
    has_float (array (items_of (map (location_data uri text tokens) found))) ≡ false
none_in_locations uri text tokens [] = refl
none_in_locations uri text tokens (at ∷ found) = none_in_locations uri text tokens found

none_in_edits : (new text : List ℕ) (tokens : List Token) (found : List ℕ) →
    has_float (array (items_of (map (edit_data new text tokens) found))) ≡ false
none_in_edits new text tokens [] = refl
none_in_edits new text tokens (at ∷ found) = none_in_edits new text tokens found

pub none_in_rename : (uri text new : List ℕ) (tokens : List Token) (found : Option ℕ) →
    has_float (or_null (option_map (edits_data uri text new tokens) found)) ≡ false
none_in_rename uri text new tokens None = refl
none_in_rename uri text new tokens (Some declared) =
    ap (λ b. (b || false) || false) (none_in_edits new text tokens (references tokens true declared))
