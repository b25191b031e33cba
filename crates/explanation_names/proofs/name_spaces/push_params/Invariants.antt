use Rattle.std.proofs.Common.{◌≡◌, ◌++◌, drop}
use Rattle.explanation_names.specs.Working.Values.{idents}
use Rattle.explanation_names.specs.Working.Viewed.{param_names}
use Rattle.explanation_names.proofs.name_spaces.push_params.Given as goal

abbrev pub invariant-loop-param : goal.invariant-loop-param
invariant-loop-param l =
    idents l.names.items ++ param_names (drop l.param-index l.params) ≡ idents l.initial.names.items ++ param_names l.params
