use Rattle.std.proofs.Common.{◌≡◌, map, reverse}
use Rattle.core_lang.specs.Expansion.{parameters_at}
use Rattle.core_lang_helpers.specs.Working.Scopes.{pair_of}
use Rattle.core_lang_helpers.proofs.scope.WrittenScope.entered.Given as goal

abbrev pub invariant-loop-k : goal.invariant-loop-k
invariant-loop-k l = reverse (map pair_of l.pairs.items) ≡ parameters_at l.k l.first
