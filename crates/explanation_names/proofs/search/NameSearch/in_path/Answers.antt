use Rattle.explanation_names.proofs.Added.{both}
use Rattle.explanation_names.proofs.search.NameSearch.in_path.Goals as goal

pub returns : goal.returns
returns c = both c.of_kind.ensures c.by_dots.ensures
