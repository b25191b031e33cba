use Rattle.syntax.proofs.Added.{followed_by_both}
use Rattle.syntax.specs.Views.{ident}
use Rattle.std.specs.Prelude.{codes}
use Rattle.syntax.proofs.print_decl.push_class.Goals as goal

pub returns : goal.returns
returns c = followed_by_both (codes ".") (ident c.args.class.now.lock).text c.push_name.ensures c.push_named.ensures
