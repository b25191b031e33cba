use Rattle.std.proofs.Common.{map, subst, sym}
use Rattle.std.proofs.lemmas.Result.{IfOk-weaker}
use Rattle.explanation.specs.Notes.{note_of}
use Rattle.source.specs.declared.fault.Code.{Code}
use Rattle.source.specs.Tokens.{seen}
use Rattle.syntax.specs.Views.{tree_of}
use Rattle.explanation_faults.specs.FaultNotes.{AreNotes}
use Rattle.explanation_faults.proofs.text_notes.notes_on_tree.Goals as goal

pub returns-in-MisplacedReturn : goal.returns-in-MisplacedReturn
returns-in-MisplacedReturn c =
    let tokens = seen c.args.tokens.now in
    let start = c.args.judged.fault.now.start in
    IfOk-weaker c.return_notes.result _ _
    (λ notes are. subst (λ (code : Code). AreNotes tokens (tree_of c.args.tree.now) code start (map note_of notes.items)) (sym c.in-MisplacedReturn.is) (are tokens))
    (rw c.deref.ensures.value at c.return_notes.ensures)
