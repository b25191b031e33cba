use Rattle.syntax.proofs.Added.{followed_by}
use Rattle.syntax.proofs.print.push_path.Goals as goal

pub returns : goal.returns
returns c = followed_by c.push_name.ensures (rw c.deref.ensures.value at c.push_fields.ensures)
