use Rattle.syntax.proofs.Added.{followed_by}
use Rattle.syntax.proofs.print_stmt.push_called.Goals as goal

pub returns : goal.returns
returns c = followed_by (followed_by c.push_str.ensures c.push_called_rest.ensures) c.push_str-2.ensures
