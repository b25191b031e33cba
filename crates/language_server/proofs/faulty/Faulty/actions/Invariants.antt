use Rattle.std.proofs.Common.{◌≡◌, map, take}
use Rattle.explanation.specs.Notes.{note_of}
use Rattle.serde_json.specs.View.{view}
use Rattle.source.specs.Tokens.{seen}
use Rattle.language_server.specs.Actions.{fault_actions}
use Rattle.language_server.proofs.faulty.Faulty.actions.Given as goal

abbrev pub invariant-loop-note : goal.invariant-loop-note
invariant-loop-note l =
    map view l.values.items
    ≡ fault_actions l.self.uri.now l.self.text.now (seen l.self.tokens.now) l.self.fault.now
    (map note_of (take l.note-index l.notes))
