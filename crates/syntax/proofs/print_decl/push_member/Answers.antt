use Rattle.std.specs.Prelude.{codes}
use Rattle.syntax.specs.Views.{ident}
use Rattle.syntax.proofs.Added.{followed_by, followed_by_both}
use Rattle.syntax.proofs.print_decl.push_member.Goals as goal

pub returns-in-Lock : goal.returns-in-Lock
returns-in-Lock c = rw c.in-Lock.is (followed_by c.push_named.ensures c.push_str.ensures)

pub returns-in-Final : goal.returns-in-Final
returns-in-Final c =
    rw c.in-Final.is (followed_by (followed_by_both (codes " ") (ident c.in-Final.reference.name).text c.push_named-in-Final.ensures c.push_named-in-Final-2.ensures) c.push_str-in-Final.ensures)

pub returns-in-Field : goal.returns-in-Field
returns-in-Field c =
    rw c.in-Field.is (followed_by (followed_by (followed_by_both (codes " ") (ident c.in-Field.field.name).text (followed_by c.push_str-in-Field.ensures c.push_type.ensures) c.push_named-in-Field.ensures) c.push_protection.ensures) c.push_str-in-Field-2.ensures)
