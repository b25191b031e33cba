use Rattle.driver.proofs.ValueLemmas.{one_more_read}
use Rattle.driver.proofs.threads_run.values_of.Goals as goal

pub loop-cell-preserved : goal.loop-cell-preserved
loop-cell-preserved c =
    one_more_read c.args.closed.now.values c.loop-cell.cell c.cell.result _ _ c.cell.ensures c.loop-cell.invariant c.in_ok-push.ensures.items
