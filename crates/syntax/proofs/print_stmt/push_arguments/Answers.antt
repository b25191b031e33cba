use Rattle.syntax.specs.Views.{expr_of}
use Rattle.syntax.specs.Working.Printing.{expr_text}
use Rattle.syntax.proofs.Added.{nothing_added, followed_by, spelled}
use Rattle.syntax.proofs.Pushes.{none_listed, some_listed}
use Rattle.syntax.proofs.print_stmt.push_arguments.Goals as goal

pub returns-in-empty : goal.returns-in-empty
returns-in-empty c =
    spelled (none_listed expr_text expr_of c.args.arguments.now c.in-empty.len_below) (nothing_added _)

pub returns-in-len1-up : goal.returns-in-len1-up
returns-in-len1-up c =
    spelled (some_listed expr_text expr_of c.args.arguments.now c.first-item.result c.in-len1-up.len_at_least c.first-item.is) (followed_by c.push_expr.ensures c.push_more_arguments.ensures)
