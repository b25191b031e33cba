use Rattle.std.proofs.Common.{◌≡◌, ◌++◌, drop, length, max}
use Rattle.lowering.specs.Working.Assembly.{blank, places}
use Rattle.lowering.specs.Working.CodeLists.{conditions_need}
use Rattle.lowering.proofs.assembler.Assembler.+condition.Given as goal

abbrev pub invariant-operands-loop-operand : goal.invariant-operands-loop-operand
invariant-operands-loop-operand l = record {
  code : l.self.instructions.items ++ blank l.connective (drop l.operand-index l.operands) ≡ l.fn.self.instructions.items ++ blank l.connective l.operands;
  jumps : l.jumps.items ++ places (length l.self.instructions.items) (drop l.operand-index l.operands) ≡ places (length l.fn.self.instructions.items) l.operands;
  need : max l.need (conditions_need (drop l.operand-index l.operands)) ≡ conditions_need l.operands;
}
