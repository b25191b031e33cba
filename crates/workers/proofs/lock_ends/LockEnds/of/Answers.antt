use Rattle.workers.proofs.LockEnds.{no_entries}
use Rattle.workers.proofs.lock_ends.LockEnds.of.Goals as goal

pub returns-clause-ends : goal.returns-clause-ends
returns-clause-ends c = λ n cell lock at there. no_entries cell _
