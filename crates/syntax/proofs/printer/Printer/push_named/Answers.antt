use Rattle.syntax.proofs.Added.{followed_by}
use Rattle.syntax.proofs.printer.Printer.push_named.Goals as goal

pub returns : goal.returns
returns c = followed_by c.push_str.ensures c.push_name.ensures
