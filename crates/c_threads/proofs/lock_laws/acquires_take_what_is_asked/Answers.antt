use Rattle.c_threads.proofs.Taking.{acquires_take}
use Rattle.c_threads.proofs.Pools.{pools_rise}
use Rattle.c_threads.proofs.lock_laws.acquires_take_what_is_asked.Goals as goal

pub returns : goal.returns
returns c = acquires_take (record {
  classes = c.paths_have_classes.ensures;
  listed = c.each_path_once.ensures.listed;
  once = c.each_path_once.ensures.once;
  rise = pools_rise;
})
