use Rattle.std.proofs.Common.{◌≡◌, ◌+◌, take}
use Rattle.core_lang_helpers.specs.Working.Scopes.{pairs_of, HasLets}
use Rattle.core_lang_helpers.proofs.scope.WrittenScope.lets.Given as goal

abbrev pub invariant-loop-argument : goal.invariant-loop-argument
invariant-loop-argument l = record {
  number : l.local ≡ l.first + l.argument-index;
  lets : HasLets l.start (pairs_of l.self) (take l.argument-index l.arguments) l.first l.fn.written.items l.written.items;
}
