use Rattle.explanation_names.proofs.Added.{both}
use Rattle.explanation_names.proofs.search.NameSearch.in_local.Goals as goal

pub returns : goal.returns
returns c = both c.in_type.ensures c.in_expr.ensures
