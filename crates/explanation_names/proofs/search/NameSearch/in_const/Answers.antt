use Rattle.explanation_names.proofs.search.NameSearch.in_const.Goals as goal

pub returns-in-Member : goal.returns-in-Member
returns-in-Member c = rw c.in-Member.is (c.of_kind.ensures)
