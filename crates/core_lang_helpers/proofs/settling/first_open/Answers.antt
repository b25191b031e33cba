use Rattle.std.proofs.Common.{false, sym, ap, ◌∙◌, refl}
use Rattle.std.specs.Prelude.{not, is_some}
use Rattle.core_lang_helpers.specs.declared.graph.CallSite.{CallSite}
use Rattle.core_lang_helpers.proofs.Settled.{some_if, passed_next}
use Rattle.core_lang_helpers.proofs.settling.first_open.Goals as goal

pub loop-at-preserved : goal.loop-at-preserved
loop-at-preserved c =
    let table = c.args.table.now in
    let cs = c.args.calls.now in
    let i = c.loop-at.at in
    let d : CallSite = record { helper = 0; start = 0; is_bound = false } in
    let found = some_if c.settled.result (is_some c.settled.result) refl (c.is_none.ensures ∙ ap not c.if-is_none.false) in
    passed_next table cs i d found.0 c.loop-at-test.true (sym c.settled.ensures ∙ found.1) c.loop-at.invariant
