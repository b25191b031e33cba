use Rattle.syntax.proofs.Added.{followed_by}
use Rattle.syntax.proofs.print_stmt.push_owned.Goals as goal

pub returns : goal.returns
returns c = followed_by (followed_by c.push_local.ensures c.push_owner.ensures) c.push_str.ensures
