use Rattle.std.proofs.Common.{◌≡◌, map, take}
use Rattle.std.specs.List.{flat_map}
use Rattle.explanation.specs.Notes.{note_of}
use Rattle.serde_json.specs.View.{view}
use Rattle.language_server.specs.Diagnostics.{note_related}
use Rattle.language_server.proofs.diagnostic_list.related_values.Given as goal

abbrev pub invariant-loop-note : goal.invariant-loop-note
invariant-loop-note l =
    map view l.values.items ≡ flat_map (note_related l.places.document.uri.now l.places.document.text.now) (map note_of (take l.note-index l.notes))
