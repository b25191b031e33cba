-- The list has no numbers with a fraction, so its text is known.
use Rattle.std.proofs.Common.{◌≡◌, ℕ, Bool, true, false, List, [], ◌∷◌, ◌++◌, Option, Some, None, refl}
use Rattle.std.specs.Prelude.{option_map, option_to_list, if◌then◌else◌}
use Rattle.explanation.specs.Notes.{Note}
use Rattle.explanations.specs.Told.{Told, faulty, accepted}
use Rattle.lsp_texts.specs.declared.walking.Position.{Position}
use Rattle.serde_json.specs.Data.{Data}
use Rattle.serde_json.specs.View.{items_of}
use Rattle.serde_json.specs.Written.{has_float, items_have_float}
use Rattle.source.specs.declared.fault.Fault.{Fault}
use Rattle.source.specs.Tokens.{Tok}
use Rattle.language_server.specs.Actions.{action_data, actions_data, fault_actions, meets}
use Rattle.language_server.specs.Changes.{Change, proposed}

none_before : (uri text : List ℕ) (change : Option Change) (rest : List Data) →
    items_have_float (items_of rest) ≡ false →
    items_have_float (items_of (option_to_list (option_map (action_data uri text) change) ++ rest)) ≡ false
none_before uri text (Some change) rest none = none
none_before uri text None rest none = none

none_in_notes : (uri text : List ℕ) (tokens : List Tok) (fault : Fault) (notes : List Note) →
    items_have_float (items_of (fault_actions uri text tokens fault notes)) ≡ false
none_in_notes uri text tokens fault [] = refl
none_in_notes uri text tokens fault (note ∷ notes) =
    none_before uri text (proposed text tokens fault note) _ (none_in_notes uri text tokens fault notes)

none_in_either : (is : Bool) (values : List Data) → items_have_float (items_of values) ≡ false →
    items_have_float (items_of (if is then values else [])) ≡ false
none_in_either true values none = none
none_in_either false values none = refl

pub none_in_told : (uri text : List ℕ) (asked : Position × Position) (tokens : List Tok) (told : Told) →
    has_float (actions_data uri text asked tokens told) ≡ false
none_in_told uri text asked tokens (faulty fault notes further) =
    none_in_either (meets text asked.0 asked.1 fault.start) _ (none_in_notes uri text tokens fault notes)
none_in_told uri text asked tokens (accepted notes warnings) = refl
