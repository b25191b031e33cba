use Rattle.outcomes.proofs.Views.{behind_chain, over_operations}
use Rattle.outcomes.proofs.accesses.+reads.Goals as goal

pub returns-after-loop-operation : goal.returns-after-loop-operation
returns-after-loop-operation t c =
    behind_chain _ _ _ _ _ _ _ _ c.in-Chain.is c.deref-in-Chain.ensures c.deref-operation-items.ensures.value
    c.in_ok-push_reads-in-Chain.ensures
    (over_operations _ c.loop-operation.operation-index _ _ c.loop-operation-test.false c.loop-operation.invariant)
