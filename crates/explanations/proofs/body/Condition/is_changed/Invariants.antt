use Rattle.std.proofs.Common.{◌≡◌, drop, map}
use Rattle.std.specs.List.{flat_map, list_any}
use Rattle.syntax.specs.Views.{expr_of}
use Rattle.explanations.specs.Names.{all_in, writes}
use Rattle.explanations.specs.Working.Found.{is_named}
use Rattle.explanations.specs.Working.Judged.{cells_of}
use Rattle.explanations.specs.Working.Values.{stmt_at}
use Rattle.explanations.proofs.body.Condition.is_changed.Given as goal

abbrev pub invariant-loop-stmt : goal.invariant-loop-stmt
invariant-loop-stmt l =
    list_any (is_named (all_in (expr_of l.self.expr.now))) (flat_map (writes (cells_of l.self.program.now)) (map stmt_at (drop l.stmt-index l.all)))
    ≡ list_any (is_named (all_in (expr_of l.self.expr.now))) (flat_map (writes (cells_of l.self.program.now)) (map stmt_at l.all))
