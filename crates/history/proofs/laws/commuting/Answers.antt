use Rattle.history.proofs.Heaps.{overwritten_spares, commutes}
use Rattle.history.proofs.laws.commuting.Goals as goal

pub returns-clause-commits : goal.returns-clause-commits
returns-clause-commits c = λ opening cs more cell legal none. commutes opening cs more cell none

pub returns-clause-writes : goal.returns-clause-writes
returns-clause-writes c = overwritten_spares
