use Rattle.syntax.proofs.print.push_type.Goals as goal

pub returns-in-Ref : goal.returns-in-Ref
returns-in-Ref c = rw c.in-Ref.is (c.push_named.ensures)
