use Rattle.workers.proofs.Asked.{goes_on_ok}
use Rattle.workers.proofs.guarded.Guarded.ask_first.Goals as goal

pub returns-in-Asking-clause-ok : goal.returns-in-Asking-clause-ok
returns-in-Asking-clause-ok g c = rw c.in-Asking.is (goes_on_ok c.in-Asking.asking c.ask.result c.ask.ensures.ok)
