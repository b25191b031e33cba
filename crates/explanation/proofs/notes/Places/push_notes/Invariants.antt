use Rattle.std.proofs.Common.{◌≡◌, ◌++◌, map, string_bytes, take}
use Rattle.explanation.specs.Notes.{note_of}
use Rattle.explanation.specs.Working.Values.{note_texts_of}
use Rattle.explanation.proofs.notes.Places.push_notes.Given as goal

abbrev pub invariant-loop-note : goal.invariant-loop-note
invariant-loop-note l =
    string_bytes l.out ≡ string_bytes l.initial.out ++ note_texts_of l.self (map note_of (take l.note-index l.notes))
