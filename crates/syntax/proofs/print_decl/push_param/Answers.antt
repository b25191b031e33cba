use Rattle.std.specs.Prelude.{codes}
use Rattle.syntax.specs.Views.{ident}
use Rattle.syntax.proofs.Added.{followed_by_both}
use Rattle.syntax.proofs.print_decl.push_param.Goals as goal

pub returns : goal.returns
returns c =
    followed_by_both (codes " ") (ident c.args.param.now.name).text c.push_type.ensures c.push_named.ensures
