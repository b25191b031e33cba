use Rattle.std.proofs.Common.{take}
use Rattle.core_lang_helpers.specs.Working.Scopes.{pairs_of, RenamesOperations}
use Rattle.core_lang_helpers.proofs.scope.WrittenScope.+expr.Given as goal

abbrev pub invariant-operations-loop-operation : goal.invariant-operations-loop-operation
invariant-operations-loop-operation l = RenamesOperations (pairs_of l.self) (take l.operation-index l.operations) l.made.items
