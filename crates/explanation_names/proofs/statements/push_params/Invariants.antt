use Rattle.std.proofs.Common.{drop, map}
use Rattle.syntax.specs.Views.{param_of}
use Rattle.explanation_names.specs.Locals.{param_in_scope}
use Rattle.explanation_names.proofs.Added.{Binding}
use Rattle.explanation_names.proofs.statements.push_params.Given as goal

abbrev pub invariant-loop-param : goal.invariant-loop-param
invariant-loop-param l =
    Binding l.initial.scope l.scope l.initial.found l.found (map param_in_scope (map param_of (drop l.param-index l.params))) (map param_in_scope (map param_of l.params))
