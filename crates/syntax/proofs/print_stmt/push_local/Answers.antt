use Rattle.syntax.proofs.Added.{followed_by}
use Rattle.syntax.proofs.print_stmt.push_local.Goals as goal

pub returns : goal.returns
returns c =
    followed_by c.push_str.ensures (followed_by (followed_by (followed_by (followed_by c.push_name.ensures c.push_str-2.ensures) c.push_type.ensures) c.push_str-3.ensures) c.push_expr.ensures)
