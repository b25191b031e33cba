use Rattle.syntax.proofs.Added.{followed_by}
use Rattle.syntax.proofs.print_decl.push_struct.Goals as goal

pub returns : goal.returns
returns c =
    followed_by (followed_by (followed_by c.push_named.ensures c.push_str.ensures) (rw c.deref.ensures.value at c.push_members.ensures)) c.push_str-2.ensures
