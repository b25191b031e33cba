use Rattle.std.proofs.Common.{[], ◌∷◌}
use Rattle.history.proofs.Heaps.{length-committed, committed-append, legal-push, true-push}
use Rattle.history.proofs.laws.one_entry_more.Goals as goal

pub returns-clause-heap : goal.returns-clause-heap
returns-clause-heap c = λ heap cs more. committed-append heap cs (more ∷ [])

pub returns-clause-legal : goal.returns-clause-legal
returns-clause-legal c = legal-push

pub returns-clause-all_true : goal.returns-clause-all_true
returns-clause-all_true c = true-push

pub returns-clause-size : goal.returns-clause-size
returns-clause-size c = length-committed
