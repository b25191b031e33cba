use Rattle.syntax.specs.Views.{param_of}
use Rattle.syntax.specs.Working.Printing.{param_text}
use Rattle.syntax.proofs.Added.{nothing_added, followed_by, spelled}
use Rattle.syntax.proofs.Pushes.{none_listed, some_listed}
use Rattle.syntax.proofs.print_decl.push_params.Goals as goal

pub returns-in-empty : goal.returns-in-empty
returns-in-empty c =
    spelled (none_listed param_text param_of c.args.params.now c.in-empty.len_below) (nothing_added _)

pub returns-in-len1-up : goal.returns-in-len1-up
returns-in-len1-up c =
    spelled (some_listed param_text param_of c.args.params.now c.first-item.result c.in-len1-up.len_at_least c.first-item.is) (followed_by c.push_param.ensures c.push_more_params.ensures)
