use Rattle.std.proofs.Common.{sym, subst}
use Rattle.std.proofs.lemmas.Bool.{both_ways}
use Rattle.explanation.specs.Further.{Further}
use Rattle.explanation_faults.specs.FurtherFaults.{AreFurther}
use Rattle.explanation_faults.specs.TextNotes.{AreTextNotes}
use Rattle.explanation_faults.proofs.OtherFaults.{with_bad}
use Rattle.explanation_faults.proofs.TextTrees.{of_its_mark}
use Rattle.explanation_faults.proofs.text_notes.fault_told.Goals as goal

pub returns-then-is_mark-clause-further : goal.returns-then-is_mark-clause-further
returns-then-is_mark-clause-further c =
    let text = c.args.text.now in
    let code = c.args.fault.now.code in
    let at = c.args.fault.now.start in
    let mark = c.is_mark.ensures.mark c.if-is_mark.true in
    subst (AreFurther text code at) (sym c.alone.ensures.further) (with_bad text code at mark.bad)
