use Rattle.std.proofs.Common.{◌≡◌, ◌++◌, map, string_bytes, take}
use Rattle.std.specs.List.{flat_map}
use Rattle.explanation.specs.Notes.{note_of}
use Rattle.language_server.specs.Diagnostics.{note_line}
use Rattle.language_server.proofs.messages.push_notes.Given as goal

abbrev pub invariant-loop-note : goal.invariant-loop-note
invariant-loop-note l =
    string_bytes l.message ≡ string_bytes l.initial.message ++ flat_map note_line (map note_of (take l.note-index l.notes))
