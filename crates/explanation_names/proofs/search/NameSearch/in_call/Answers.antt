use Rattle.explanation_names.proofs.Added.{both}
use Rattle.explanation_names.proofs.search.NameSearch.in_call.Goals as goal

pub returns : goal.returns
returns c = both c.of_kind.ensures (rw c.deref.ensures.value at c.in_exprs.ensures)
