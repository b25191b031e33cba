use Rattle.explanation_names.proofs.Added.{nothing_said}
use Rattle.explanation_names.proofs.search.NameSearch.in_type.Goals as goal

pub returns-in-Int : goal.returns-in-Int
returns-in-Int c = rw c.in-Int.is (nothing_said _ _)

pub returns-in-Ref : goal.returns-in-Ref
returns-in-Ref c = rw c.in-Ref.is (c.of_kind.ensures)
