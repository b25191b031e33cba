use Rattle.std.proofs.Common.{map, sym, subst}
use Rattle.std.proofs.lemmas.Result.{IfOk-weaker}
use Rattle.syntax.specs.Views.{decl_of}
use Rattle.explanation_faults.specs.FaultNotes.{IsReturnNote, missing}
use Rattle.explanation_faults.proofs.tree_notes.note_of_return.Goals as goal

pub returns : goal.returns
returns c =
    IfOk-weaker c.name_note.result _ _
    (λ note is. subst (IsReturnNote (map decl_of c.args.decls.now) c.args.at) (sym is) (missing c.in-Some.ensures))
    c.name_note.ensures
