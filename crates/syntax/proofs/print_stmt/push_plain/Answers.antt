use Rattle.syntax.proofs.Added.{followed_by}
use Rattle.syntax.proofs.print_stmt.push_plain.Goals as goal

pub returns : goal.returns
returns c = followed_by c.push_local.ensures c.push_str.ensures
