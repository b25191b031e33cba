use Rattle.explanation_names.proofs.Unknown.{sought_at}
use Rattle.explanation_names.proofs.laws.unknown_are_sought.Goals as goal

pub returns : goal.returns
returns c = λ decls at unknown. sought_at decls at unknown
