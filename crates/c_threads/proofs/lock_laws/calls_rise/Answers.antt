use Rattle.c_threads.proofs.LockCalls.{calls_rise}
use Rattle.c_threads.proofs.lock_laws.calls_rise.Goals as goal

pub returns : goal.returns
returns c = calls_rise c.sections_stay_in_order.ensures
