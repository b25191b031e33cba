use Rattle.syntax.proofs.Added.{nothing_added, followed_by}
use Rattle.syntax.proofs.print_decl.push_value.Goals as goal

pub returns-in-None : goal.returns-in-None
returns-in-None c = rw c.in-None.is (nothing_added _)

pub returns-in-Some : goal.returns-in-Some
returns-in-Some c = rw c.in-Some.is (followed_by c.push_str.ensures c.push_const.ensures)
