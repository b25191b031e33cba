use Rattle.std.proofs.Common.{◌∙◌}
use Rattle.locks.specs.Theory.Lists.{in_operand}
use Rattle.lockpaths.proofs.Going.{over_chain, over_next}
use Rattle.lockpaths.specs.Working.Told.{seen}
use Rattle.lockpaths.proofs.finder.Finder.+expr.Goals as goal

pub returns-after-loop-operation : goal.returns-after-loop-operation
returns-after-loop-operation t c =
    over_chain c.args.self.now _ _ _ _ _ _ _ _ _ c.in-Chain.is c.deref-in-Chain.ensures c.deref-operation-items.ensures.value c.in_ok-expr-in-Chain.ensures
    c.loop-operation-test.false c.loop-operation.invariant

pub loop-operation-preserved : goal.loop-operation-preserved
loop-operation-preserved t c =
    over_next c.args.self.now (seen c.loop-operation.found) (seen c.expr-in-loop-operation.new.found) in_operand c.deref-operation-items.result.now c.loop-operation.operation-index c.operation-item.result
    c.loop-operation-test.true c.operation-item.is c.in_ok-expr-in-Chain-2.ensures
    ∙ c.loop-operation.invariant
