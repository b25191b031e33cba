use Rattle.std.proofs.Common.{◌≡◌, ◌++◌, drop, max}
use Rattle.code.specs.Lowering.{expr_code}
use Rattle.code.specs.Needs.{expr_need}
use Rattle.lowering.specs.Working.CodeLists.{operations_code, operations_need}
use Rattle.lowering.proofs.assembler.Assembler.+expression.Given as goal

abbrev pub invariant-loop-operation : goal.invariant-loop-operation
invariant-loop-operation l = record {
  code : l.self.instructions.items ++ operations_code (drop l.operation-index l.operation-items) ≡ l.fn.self.instructions.items ++ expr_code l.fn.e;
  need : max l.need (operations_need (drop l.operation-index l.operation-items)) ≡ expr_need l.fn.e;
}

abbrev pub decreases-expression : goal.decreases-expression
decreases-expression l = goal.size-expression l
