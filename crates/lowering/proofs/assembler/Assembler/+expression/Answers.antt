use Rattle.std.proofs.Common.{◌∙◌, refl}
use Rattle.lowering.specs.Working.CodeLists.{operations_code, operations_need}
use Rattle.lowering.proofs.Pieces.{operation_turn, need_turn, none_left, no_need_left}
use Rattle.lowering.proofs.Chains.{chain_starts}
use Rattle.lowering.proofs.Depths.{chain_needs}
use Rattle.lowering.proofs.assembler.Assembler.+expression.Goals as goal

pub loop-operation-init : goal.loop-operation-init
loop-operation-init t c = record {
  code = chain_starts _ _ _ _ _ _ _ c.in-Chain.is c.deref-operation-items.ensures.value c.deref-in-Chain.ensures c.in_ok-need-in-Chain.ensures.code;
  need = chain_needs _ _ _ _ _ _ c.in-Chain.is c.deref-operation-items.ensures.value c.deref-in-Chain.ensures c.in_ok-need-in-Chain.ensures.need;
}

pub loop-operation-preserved : goal.loop-operation-preserved
loop-operation-preserved t c = record {
  code = operation_turn c.deref-operation-items.result.now c.loop-operation.operation-index c.operation-item.result c.loop-operation-test.true c.operation-item.is
      c.loop-operation.self.instructions.items c.expression-in-loop-operation.new.self.instructions.items c.put-in-loop-operation.new.self.instructions.items
      c.in_ok-expression-in-Chain.ensures.code c.in_ok-put-in-Chain.ensures
      ∙ c.loop-operation.invariant.code;
  need = need_turn c.deref-operation-items.result.now c.loop-operation.operation-index c.operation-item.result c.loop-operation-test.true c.operation-item.is
      _ _ _ _ c.max-need.ensures c.in_ok-operand-in-Chain.ensures c.in_ok-expression-in-Chain.ensures.need
      ∙ c.loop-operation.invariant.need;
}

pub returns-after-loop-operation-clause-code : goal.returns-after-loop-operation-clause-code
returns-after-loop-operation-clause-code t c =
    none_left operations_code c.deref-operation-items.result.now c.loop-operation.operation-index c.loop-operation.self.instructions.items _ c.loop-operation-test.false refl
    c.loop-operation.invariant.code

pub returns-after-loop-operation-clause-need : goal.returns-after-loop-operation-clause-need
returns-after-loop-operation-clause-need t c =
    no_need_left operations_need c.deref-operation-items.result.now c.loop-operation.operation-index c.loop-operation.need _ c.loop-operation-test.false refl
    c.loop-operation.invariant.need
