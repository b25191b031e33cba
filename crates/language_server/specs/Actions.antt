-- The changes that the notes on a text's fault propose, as the protocol's list of `CodeAction`.
use Rattle.std.specs.Prelude.{ℕ, Bool, ◌&&◌, nat_le, List, [], ◌∷◌, codes, option_map, option_to_list, if◌then◌else◌}
use Rattle.std.specs.List.{flat_map}
use Rattle.serde_json.specs.Data.{Data, array, no_items, object, string, member, no_members}
use Rattle.serde_json.specs.View.{items_of}
use Rattle.explanation.specs.Notes.{Note}
use Rattle.explanation.specs.Json.{end_of}
use Rattle.explanations.specs.Told.{Told, faulty, accepted, IsToldOf}
use Rattle.source.specs.declared.fault.Code.{Code}
use Rattle.source.specs.declared.fault.Fault.{Fault}
use Rattle.source.specs.Texts.{HasTokens, IsFault}
use Rattle.source.specs.Tokens.{Tok}
use Rattle.lsp_texts.specs.Positions.{offset_of}
use Rattle.lsp_texts.specs.declared.walking.Position.{Position}
use Rattle.lsp_texts.specs.Ranges.{range_data}
use Rattle.language_server.specs.Changes.{Change, proposed}

-- ---- a change

-- {"newText":TEXT,"range":RANGE}
abbrev pub edit_data : List ℕ → Change → Data
edit_data text change =
    object (member (codes "newText") (string change.new)
    (member (codes "range") (range_data text change.start change.end) no_members))

-- {"changes":{URI:[EDIT]}}
abbrev pub workspace_edit_data : List ℕ → List ℕ → Change → Data
workspace_edit_data uri text change =
    object (member (codes "changes")
    (object (member uri (array (items_of (edit_data text change ∷ []))) no_members)) no_members)

-- a change as the protocol's action: {"edit":EDIT,"kind":"quickfix","title":TITLE}
abbrev pub action_data : List ℕ → List ℕ → Change → Data
action_data uri text change =
    object (member (codes "edit") (workspace_edit_data uri text change)
    (member (codes "kind") (string (codes "quickfix"))
    (member (codes "title") (string change.title) no_members)))

-- ---- the actions of a fault

-- the action of a note, if it proposes a change
abbrev pub note_actions : List ℕ → List ℕ → List Tok → Fault → Note → List Data
note_actions uri text tokens fault note =
    option_to_list (option_map (action_data uri text) (proposed text tokens fault note))

-- the actions of all notes on a fault
abbrev pub fault_actions : List ℕ → List ℕ → List Tok → Fault → List Note → List Data
fault_actions uri text tokens fault notes = flat_map (note_actions uri text tokens fault) notes

-- ---- the actions for a range

-- the range meets or touches the word that begins at the byte
abbrev pub meets : List ℕ → Position → Position → ℕ → Bool
meets text start end at = nat_le (offset_of text start) (end_of text at) && nat_le at (offset_of text end)

-- the actions of the notes on a fault whose word the range meets
abbrev pub actions_of : List ℕ → List ℕ → Position × Position → List Tok → Told → List Data
actions_of uri text asked tokens (faulty fault notes further) =
    if meets text asked.0 asked.1 fault.start then fault_actions uri text tokens fault notes else []
actions_of uri text asked tokens (accepted notes warnings) = []

-- the list of these actions
abbrev pub actions_data : List ℕ → List ℕ → Position × Position → List Tok → Told → Data
actions_data uri text asked tokens told = array (items_of (actions_of uri text asked tokens told))

-- these are the actions for a range of the document, given the report on the text; none where it has a lexical fault
pub data AreActionsOf (uri text : List ℕ) (asked : Position × Position) : Data → Type 0 where
  of_told : {told : Told} {tokens : List Tok} → IsToldOf text told → HasTokens text tokens →
      AreActionsOf uri text asked (actions_data uri text asked tokens told)
  without_tokens : {code : Code} {start : ℕ} → IsFault text code start → AreActionsOf uri text asked (array no_items)
