use Rattle.std.proofs.Common.{◌≡◌, ◌++◌, drop, map}
use Rattle.syntax.specs.Views.{stmts_of}
use Rattle.explanation_names.specs.Working.Viewed.{stmt_at}
use Rattle.explanation_names.specs.Vars.{all_of}
use Rattle.explanation_names.proofs.vars.+statements.Given as goal

abbrev pub invariant-push_all-loop-stmt : goal.invariant-push_all-loop-stmt
invariant-push_all-loop-stmt l =
    map stmt_at l.all.items ++ all_of (stmts_of (drop l.stmt-index l.stmts)) ≡ map stmt_at l.initial.all.items ++ all_of (stmts_of l.stmts)
