use Rattle.explanation_faults.proofs.tree_notes.Faulty.declared_note.Goals as goal

pub returns-in_default : goal.returns-in_default
returns-in_default c = λ note is. let none = rw c.in_default.is at c.in_ok-first.ensures in none is.name is.declared
