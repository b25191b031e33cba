use Rattle.std.proofs.Common.{ap}
use Rattle.explanation_faults.specs.Words.{note_of_all}
use Rattle.explanation_faults.proofs.tree_notes.Faulty.limit_note.Goals as goal

pub returns-in_default : goal.returns-in_default
returns-in_default c = rw c.in_default.is at c.in_ok-words.ensures

pub returns : goal.returns
returns c =
    record { words = c.in-Some.words.now; passed = rw c.in-Some.is at c.in_ok-words.ensures; said = ap note_of_all c.in_ok-from_str.ensures.ok }
