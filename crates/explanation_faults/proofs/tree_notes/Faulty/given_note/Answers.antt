use Rattle.explanation_faults.proofs.tree_notes.Faulty.given_note.Goals as goal

pub returns-in_default : goal.returns-in_default
returns-in_default c = λ note is. let none = rw c.items.ensures at c.in_default.ensures in none is.first is.given
