use Rattle.language_server.proofs.Warned.{one_further}
use Rattle.language_server.proofs.diagnostic_list.further_values.Goals as goal

pub loop-fault-preserved : goal.loop-fault-preserved
loop-fault-preserved c =
    one_further c.args.places.now.document.text.now c.args.faults.now c.loop-fault.fault-index _
    c.loop-fault.values.items _ _ c.loop-fault-test.true c.loop-fault.invariant
    c.in_ok-push.ensures.items c.in_ok-further_value.ensures
