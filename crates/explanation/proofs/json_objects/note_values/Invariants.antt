use Rattle.std.proofs.Common.{◌≡◌, map, take}
use Rattle.explanation.specs.Notes.{note_of}
use Rattle.serde_json.specs.View.{view}
use Rattle.explanation.specs.Json.{note_data}
use Rattle.explanation.proofs.json_objects.note_values.Given as goal

abbrev pub invariant-loop-note : goal.invariant-loop-note
invariant-loop-note l =
    map view l.values.items ≡ map (note_data l.places.text.now) (map note_of (take l.note-index l.notes))
