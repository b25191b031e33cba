use Rattle.syntax.proofs.Added.{followed_by}
use Rattle.syntax.proofs.print_stmt.push_helper_call.Goals as goal

pub returns : goal.returns
returns c =
    followed_by (followed_by (followed_by c.push_name.ensures c.push_str.ensures) (rw c.deref.ensures.value at c.push_arguments.ensures)) c.push_str-2.ensures
