use Rattle.std.specs.Prelude.{codes}
use Rattle.syntax.specs.Views.{ident}
use Rattle.syntax.proofs.Added.{followed_by, followed_by_both}
use Rattle.syntax.proofs.print_decl.push_pool.Goals as goal

pub returns : goal.returns
returns c =
    followed_by (followed_by (followed_by_both (codes " ") (ident c.args.pool.now.name).text c.push_named.ensures c.push_named-2.ensures) c.push_index.ensures) c.push_str.ensures
