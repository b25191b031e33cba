use Rattle.syntax.proofs.Added.{followed_by}
use Rattle.syntax.proofs.print.push_const.Goals as goal

pub returns-in-Negative : goal.returns-in-Negative
returns-in-Negative c = rw c.in-Negative.is (followed_by c.push_str.ensures c.push_number-in-Negative.ensures)

pub returns-in-Member : goal.returns-in-Member
returns-in-Member c = rw c.in-Member.is (followed_by c.push_name.ensures c.push_index.ensures)
