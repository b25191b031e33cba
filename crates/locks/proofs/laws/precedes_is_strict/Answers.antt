use Rattle.locks.proofs.Strict.{precedes_strict}
use Rattle.locks.proofs.laws.precedes_is_strict.Goals as goal

pub returns : goal.returns
returns c = precedes_strict
