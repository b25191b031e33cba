use Rattle.c_threads.proofs.LockGiving.{ends_give_back}
use Rattle.c_threads.proofs.Pools.{pools_rise}
use Rattle.c_threads.proofs.lock_laws.ends_give_back_what_is_held.Goals as goal

pub returns : goal.returns
returns c = ends_give_back pools_rise
