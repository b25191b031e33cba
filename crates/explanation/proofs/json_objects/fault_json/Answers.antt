use Rattle.std.proofs.Common.{◌∙◌, ap, map}
use Rattle.code.specs.Listing.{line}
use Rattle.explanation.specs.Further.{further_of}
use Rattle.explanation.specs.Notes.{note_of}
use Rattle.serde_json.specs.Written.{compact_text}
use Rattle.explanation.proofs.Floats.{none_in_fault}
use Rattle.explanation.proofs.json_objects.fault_json.Goals as goal

pub returns : goal.returns
returns c =
    let x = c.args.explanation.now in
    let is = c.in_ok-value.ensures in
    let none = none_in_fault x.file.now x.text.now x.fault.now (map note_of x.notes.now) (further_of x.further.now) in
    let text = c.in_ok-json.ensures.text (rw is none) in
    c.in_ok-push_str.ensures.bytes ∙ ap line (text ∙ ap compact_text is)
