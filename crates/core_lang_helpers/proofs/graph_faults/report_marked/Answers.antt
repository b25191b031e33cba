use Rattle.std.proofs.Common.{get_or, false, sym, ◌∙◌}
use Rattle.std.proofs.lemmas.List.{get_or_default}
use Rattle.core_lang_helpers.specs.declared.graph.CallSite.{CallSite}
use Rattle.core_lang_helpers.proofs.Noting.{mark_noted, mark_passed}
use Rattle.core_lang_helpers.proofs.graph_faults.report_marked.Goals as goal
use Rattle.core_lang_helpers.proofs.graph_faults.report_marked.Goals.{then-is_marked, else-is_marked}

pub loop-call-preserved : goal.loop-call-preserved
loop-call-preserved c =
    let marks = c.args.marks.now in
    let cs = c.args.calls.now in
    let i = c.loop-call.call-index in
    let d : CallSite = record { helper = 0; start = 0; is_bound = false } in
    let x = get_or cs i d in
    let at = get_or_default cs i d x c.loop-call-test.true in
    elim c.if-is_marked.branch [
      | then-is_marked w ↦
          mark_noted marks cs i x c.args.least.now c.loop-call.least c.if-is_marked.least c.loop-call-test.true at c.loop-call.invariant
          (sym c.is_marked.ensures ∙ w.if-is_marked.true) (w.least-is ∙ w.report.ensures)
      | else-is_marked w ↦
          mark_passed marks cs i x c.args.least.now c.loop-call.least c.if-is_marked.least c.loop-call-test.true at c.loop-call.invariant
          (sym c.is_marked.ensures ∙ w.if-is_marked.false) w.least-is
    ]
