use Rattle.syntax.proofs.Added.{nothing_added}
use Rattle.syntax.proofs.print_decl.push_protection.Goals as goal

pub returns-in-None : goal.returns-in-None
returns-in-None c = rw c.in-None.is (nothing_added _)
