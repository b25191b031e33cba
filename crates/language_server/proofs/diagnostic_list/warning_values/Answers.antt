use Rattle.std.proofs.Common.{◌∙◌, List, ap, arith}
use Rattle.std.proofs.lemmas.List.{take_all}
use Rattle.serde_json.proofs.Views.{view-Array}
use Rattle.serde_json.specs.Data.{Data, array}
use Rattle.serde_json.specs.View.{items_of}
use Rattle.language_server.proofs.Warned.{one_more, warned}
use Rattle.language_server.proofs.diagnostic_list.warning_values.Goals as goal

pub loop-warning-preserved : goal.loop-warning-preserved
loop-warning-preserved c =
    one_more c.args.places.now.document.text.now c.args.warnings.now c.loop-warning.warning-index c.warning-item.result
    c.loop-warning.values.items _ _ c.loop-warning-test.true c.warning-item.is c.loop-warning.invariant
    c.in_ok-push.ensures.items c.in_ok-warning_value.ensures

pub returns : goal.returns
returns c =
    let text = c.args.places.now.document.text.now in
    let all = take_all c.loop-warning.warning-index c.args.warnings.now (omega arith) in
    view-Array c.loop-warning.values ∙ ap (λ (ds : List Data). array (items_of ds)) (c.loop-warning.invariant ∙ ap (warned text) all)
