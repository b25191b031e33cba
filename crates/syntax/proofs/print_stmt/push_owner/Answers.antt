use Rattle.std.specs.Prelude.{codes}
use Rattle.syntax.specs.Views.{ident}
use Rattle.syntax.proofs.Added.{followed_by_both}
use Rattle.syntax.proofs.print_stmt.push_owner.Goals as goal

pub returns : goal.returns
returns c = followed_by_both (codes " == ") (ident c.args.owner.now.local).text c.push_named.ensures c.push_named-2.ensures
