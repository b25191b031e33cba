use Rattle.std.proofs.Common.{◌≡◌, length}
use Rattle.resolution.specs.Scopes.{hidden_from, local_bears}
use Rattle.types_symbols.specs.Working.Found.{IsTableOf}
use Rattle.types_symbols.specs.Working.Scoped.{locals_seen}
use Rattle.types_symbols.proofs.scope.Locals.hide_from.Given as goal

abbrev pub invariant-loop-i : goal.invariant-loop-i
invariant-loop-i l = record {
  hides : hidden_from l.i (locals_seen l.self-inside.items.items) ≡ hidden_from l.place l.fn.self.locals;
  table : IsTableOf local_bears l.fn.self.locals l.self-inside.names;
  type_same : l.self-inside.result ≡ l.fn.self.result;
  limits_same : l.self-inside.limits ≡ l.fn.self.limits;
  len : length l.self-inside.items.items ≡ length l.fn.self.locals;
}
