use Rattle.syntax.proofs.Added.{followed_by}
use Rattle.syntax.proofs.print_decl.push_section.Goals as goal

pub returns : goal.returns
returns c =
    followed_by (followed_by (followed_by (followed_by (followed_by (followed_by (followed_by (followed_by c.push_named.ensures c.push_str.ensures) (rw c.deref.ensures.value at c.push_params.ensures)) c.push_str-2.ensures) c.push_result.ensures) (rw c.deref-2.ensures.value at c.push_listed.ensures)) c.push_str-3.ensures) (rw c.deref-3.ensures.value at c.push_stmts.ensures)) c.push_str-4.ensures
