use Rattle.std.proofs.Common.{sym, ap, ◌∙◌, false}
use Rattle.std.proofs.lemmas.List.{take_all}
use Rattle.std.proofs.lemmas.List.Folds.{list_any_at, list_any_more}
use Rattle.core_lang_helpers.specs.declared.graph.CallSite.{CallSite}
use Rattle.core_lang_helpers.specs.Working.FaultLists.{is_new, any_new}
use Rattle.core_lang_helpers.proofs.Noting.{both_false}
use Rattle.core_lang_helpers.proofs.graph_faults.any_is_new.Goals as goal

pub returns-then-is_new : goal.returns-then-is_new
returns-then-is_new c =
    let d : CallSite = record { helper = 0; start = 0; is_bound = false } in
    sym (list_any_at (is_new c.args.least) c.args.calls.now c.loop-call.call-index d c.loop-call-test.true (sym c.is_new.ensures ∙ c.if-is_new.true))

pub loop-call-preserved : goal.loop-call-preserved
loop-call-preserved c =
    let d : CallSite = record { helper = 0; start = 0; is_bound = false } in
    list_any_more (is_new c.args.least) c.args.calls.now c.loop-call.call-index d c.loop-call-test.true
    ∙ both_false _ _ c.loop-call.invariant (sym c.is_new.ensures ∙ c.if-is_new.false)

pub returns : goal.returns
returns c = sym c.loop-call.invariant ∙ ap (any_new c.args.least) (take_all c.loop-call.call-index c.args.calls.now c.loop-call-test.false)
