use Rattle.std.proofs.Common.{◌≡◌, List, Option, ap, sym, ◌∙◌}
use Rattle.std.specs.List.{flat_map}
use Rattle.source.specs.declared.fault.Code.TheVariants.{LimitExceeded}
use Rattle.source.specs.Mistakes.{least_of}
use Rattle.core_lang_helpers.specs.declared.graph.CallSite.{CallSite}
use Rattle.core_lang_helpers.specs.declared.extents.Extent.{Extent}
use Rattle.core_lang_helpers.specs.Graphs.{body_of}
use Rattle.core_lang_helpers.specs.Working.Tables.{extent_at, is_deep_by}
use Rattle.core_lang_helpers.specs.Working.Knowledge.{bodies}
use Rattle.core_lang_helpers.specs.Working.FaultLists.{told_if, is_too_deep, recursion_faults}
use Rattle.core_lang_helpers.proofs.Noting.{noted, not_noted, helper_mapped, deep_is}
use Rattle.core_lang_helpers.proofs.graph_faults.Known.report_helpers.Goals as goal
use Rattle.core_lang_helpers.proofs.graph_faults.Known.report_helpers.Goals.{then-is_too_deep, else-is_too_deep}

pub loop-number-preserved : goal.loop-number-preserved
loop-number-preserved c =
    let known = c.args.self.now in
    let i = c.loop-number.number in
    let x = c.helper-item.result in
    let deep = is_too_deep (bodies known) i in
    let test : c.is_too_deep.result ≡ deep =
    c.is_too_deep.ensures ∙ ap (λ (t : List (Option Extent)). is_deep_by (extent_at t i)) c.deref.ensures.value ∙ deep_is (bodies known) known.extents.table.items i c.requires.extents in
    let first : c.if-is_too_deep.least ≡ least_of c.loop-number.least (told_if deep LimitExceeded x.start) = elim c.if-is_too_deep.branch [
      | then-is_too_deep w ↦ noted deep LimitExceeded x.start c.loop-number.least c.if-is_too_deep.least (sym test ∙ w.if-is_too_deep.true) (w.least-is ∙ w.report.ensures)
      | else-is_too_deep w ↦ w.least-is ∙ not_noted deep LimitExceeded x.start c.loop-number.least (sym test ∙ w.if-is_too_deep.false)
    ] in
    helper_mapped body_of (bodies known) known.callers.helpers.now i x c.args.least.now c.loop-number.least c.if-is_too_deep.least c.report_recursion.new.least c.loop-number-test.true c.helper-item.is
    c.loop-number.invariant first
    (c.in_ok-report_recursion.ensures ∙ ap (λ (cs : List CallSite). least_of c.if-is_too_deep.least (flat_map (recursion_faults (bodies known) i) cs)) c.deref-in-loop-number.ensures.value)
