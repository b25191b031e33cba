use Rattle.std.proofs.Common.{take}
use Rattle.core_lang_helpers.specs.Working.Scopes.{pairs_of, RenamesConditions}
use Rattle.core_lang_helpers.proofs.scope.WrittenScope.+condition.Given as goal

abbrev pub invariant-conditions-loop-condition : goal.invariant-conditions-loop-condition
invariant-conditions-loop-condition l = RenamesConditions (pairs_of l.self) (take l.condition-index l.conditions) l.made.items
