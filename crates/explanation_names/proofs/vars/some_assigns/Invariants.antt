use Rattle.std.proofs.Common.{◌≡◌, map, drop}
use Rattle.explanation_names.specs.Working.Viewed.{stmt_at}
use Rattle.explanation_names.specs.Working.VarsFound.{some_assigns}
use Rattle.explanation_names.proofs.vars.some_assigns.Given as goal

abbrev pub invariant-loop-stmt : goal.invariant-loop-stmt
invariant-loop-stmt l = some_assigns l.text (map stmt_at (drop l.stmt-index l.all)) ≡ some_assigns l.text (map stmt_at l.all)
