use Rattle.syntax.specs.Views.{class_name_of}
use Rattle.syntax.proofs.Added.{nothing_added, followed_by, spelled}
use Rattle.syntax.proofs.Pushes.{none_whole, some_whole}
use Rattle.syntax.proofs.print_decl.push_listed.Goals as goal

pub returns-in-empty : goal.returns-in-empty
returns-in-empty c = spelled (none_whole class_name_of c.args.classes.now c.in-empty.len_below) (nothing_added _)

pub returns-in-len1-up : goal.returns-in-len1-up
returns-in-len1-up c =
    spelled (some_whole class_name_of c.args.classes.now c.first-item.result c.in-len1-up.len_at_least c.first-item.is) (followed_by (followed_by (followed_by c.push_str.ensures c.push_class.ensures) c.push_more_classes.ensures) c.push_str-in-len1-up.ensures)
