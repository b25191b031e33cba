use Rattle.std.proofs.Common.{◌≡◌, map, drop}
use Rattle.explanation_names.specs.FirstBy.{first_by}
use Rattle.explanation_names.specs.Working.Viewed.{stmt_at}
use Rattle.explanation_names.specs.Working.VarsFound.{var_in}
use Rattle.explanation_names.proofs.vars.var_named.Given as goal

abbrev pub invariant-loop-stmt : goal.invariant-loop-stmt
invariant-loop-stmt l = first_by (var_in l.text) (map stmt_at (drop l.stmt-index l.all)) ≡ first_by (var_in l.text) (map stmt_at l.all)
