use Rattle.std.specs.Prelude.{codes}
use Rattle.syntax.specs.Views.{ident}
use Rattle.syntax.proofs.Added.{followed_by, followed_by_both}
use Rattle.syntax.proofs.print_decl.push_variable.Goals as goal

pub returns : goal.returns
returns c =
    followed_by (followed_by (followed_by (followed_by_both (codes " ") (ident c.args.variable.now.name).text (followed_by c.push_str.ensures c.push_type.ensures) c.push_named.ensures) c.push_protection.ensures) c.push_value.ensures) c.push_str-2.ensures
