use Rattle.explanation_names.proofs.Added.{both}
use Rattle.explanation_names.proofs.search.NameSearch.in_owned.Goals as goal

pub returns : goal.returns
returns c = both c.in_local.ensures (both c.by_owner.ensures c.of_kind.ensures)
