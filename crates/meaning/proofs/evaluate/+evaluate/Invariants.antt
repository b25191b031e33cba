use Rattle.std.proofs.Common.{◌≡◌, ◌+◌, ◌*◌, drop, Ok}
use Rattle.core_lang.specs.Meaning.{value_of}
use Rattle.core_lang.specs.Theory.Lists.{operations}
use Rattle.meaning.proofs.evaluate.+evaluate.Given as goal

abbrev pub invariant-evaluate-loop-operation : goal.invariant-evaluate-loop-operation
invariant-evaluate-loop-operation l = operations (drop l.operation-index l.operation-items) l.shape l.locals l.heap (Ok l.value) ≡ value_of l.e l.shape l.locals l.heap

abbrev pub decreases-evaluate : goal.decreases-evaluate
decreases-evaluate l = 2 * goal.size-evaluate l

abbrev pub decreases-operand : goal.decreases-operand
decreases-operand l = 2 * goal.size-operand l + 1
