use Rattle.std.proofs.Common.{◌∙◌, ap, map}
use Rattle.code.specs.Listing.{line}
use Rattle.explanation.specs.Notes.{note_of}
use Rattle.explanation.specs.Warnings.{warning_of}
use Rattle.serde_json.specs.Written.{compact_text}
use Rattle.explanation.proofs.Floats.{none_in_accepted}
use Rattle.explanation.proofs.json_objects.accepted_json.Goals as goal

pub returns : goal.returns
returns c =
    let x = c.args.acceptance.now in
    let is = c.in_ok-value.ensures in
    let none = none_in_accepted x.file.now x.text.now (map note_of x.notes.now) (map warning_of x.warnings.now) in
    let text = c.in_ok-json.ensures.text (rw is none) in
    c.in_ok-push_str.ensures.bytes ∙ ap line (text ∙ ap compact_text is)
