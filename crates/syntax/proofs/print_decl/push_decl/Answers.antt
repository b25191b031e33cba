use Rattle.syntax.proofs.Added.{followed_by}
use Rattle.syntax.proofs.print_decl.push_decl.Goals as goal

pub returns-in-Lock : goal.returns-in-Lock
returns-in-Lock c = rw c.in-Lock.is (followed_by c.push_named.ensures c.push_str.ensures)
