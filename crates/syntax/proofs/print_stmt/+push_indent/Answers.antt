use Rattle.syntax.proofs.Added.{nothing_added, followed_by, spelled}
use Rattle.syntax.proofs.Pushes.{indent_is}
use Rattle.syntax.proofs.print_stmt.+push_indent.Goals as goal

pub returns-then-depth-eq0 : goal.returns-then-depth-eq0
returns-then-depth-eq0 t c = rw c.if-depth-eq0.true (nothing_added _)

pub returns : goal.returns
returns t c =
    spelled (indent_is c.args.depth c.if-depth-eq0.false) (followed_by c.push_str.ensures c.push_indent.ensures)
