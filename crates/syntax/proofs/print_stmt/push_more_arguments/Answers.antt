use Rattle.std.proofs.Common.{refl, map}
use Rattle.syntax.specs.Views.{expr_of}
use Rattle.syntax.specs.Working.Printing.{many_text, after_comma, expr_text}
use Rattle.syntax.proofs.Added.{followed_by, at_first, item_added, all_added}
use Rattle.syntax.proofs.print_stmt.push_more_arguments.Goals as goal

pub arguments-init : goal.arguments-init
arguments-init c = at_first _ _

pub arguments-preserved : goal.arguments-preserved
arguments-preserved c =
    item_added (λ l. many_text (after_comma expr_text) (map expr_of l)) c.args.arguments.now c.arguments.argument-index c.argument-item.result c.arguments-test.true c.argument-item.is refl c.arguments.invariant (followed_by c.push_str.ensures c.push_expr.ensures)

pub returns : goal.returns
returns c =
    all_added (λ l. many_text (after_comma expr_text) (map expr_of l)) c.args.arguments.now c.arguments.argument-index c.arguments-test.false refl c.arguments.invariant
