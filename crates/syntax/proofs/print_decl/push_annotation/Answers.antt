use Rattle.syntax.proofs.Added.{followed_by}
use Rattle.syntax.proofs.print_decl.push_annotation.Goals as goal

pub returns : goal.returns
returns c =
    followed_by (followed_by c.push_named.ensures (rw c.deref.ensures.value at c.push_fields.ensures)) c.push_str.ensures
