use Rattle.std.specs.Prelude.{codes}
use Rattle.syntax.specs.Views.{ident}
use Rattle.syntax.proofs.Added.{followed_by, followed_by_both}
use Rattle.syntax.proofs.print_decl.push_init.Goals as goal

pub returns : goal.returns
returns c =
    followed_by (followed_by (followed_by (followed_by_both (codes ".") (ident c.args.init.now.field).text (followed_by c.push_named.ensures c.push_index.ensures) c.push_named-2.ensures) c.push_str.ensures) c.push_const.ensures) c.push_str-2.ensures
