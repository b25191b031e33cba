use Rattle.std.proofs.Common.{sym}
use Rattle.explanation_faults.specs.FaultNotes.{gap, null}
use Rattle.explanation_faults.specs.Working.Values.{decls_of}
use Rattle.explanation_faults.proofs.MissingInits.{is_null_given, no_gap}
use Rattle.explanation_faults.proofs.tree_notes.Faulty.final_note.Goals as goal

pub returns-in-Some : goal.returns-in-Some
returns-in-Some c = rw c.in_ok-note.ensures (gap (c.in-Some.ensures))

pub returns-in-Some-null_given : goal.returns-in-Some-null_given
returns-in-Some-null_given c =
    let x = c.args.self.now in
    rw c.in_ok-note-2.ensures (null (is_null_given (decls_of x) x.at _ (sym (c.in-Some-null_given.ensures))))

pub returns : goal.returns
returns c =
    let x = c.args.self.now in
    no_gap (decls_of x) x.at (c.in_default.ensures) (sym (c.in_default-null_given.ensures))
