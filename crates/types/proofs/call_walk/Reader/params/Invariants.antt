use Rattle.std.proofs.Common.{◌≡◌, drop, map}
use Rattle.syntax.specs.Views.{param_of}
use Rattle.resolution.specs.Scopes.{entered}
use Rattle.types.specs.Working.Walks.{scope_at}
use Rattle.types.proofs.call_walk.Reader.params.Given as goal

abbrev pub invariant-loop-param : goal.invariant-loop-param
invariant-loop-param l = entered (scope_at l.self l.locals) (map param_of (drop l.param-index l.params)) ≡ entered (scope_at l.fn.self l.fn.locals) (map param_of l.params)
