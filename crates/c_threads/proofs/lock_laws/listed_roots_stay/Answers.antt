use Rattle.c_threads.proofs.Roots.{listed_roots_stay}
use Rattle.c_threads.proofs.Pools.{pools_rise}
use Rattle.c_threads.proofs.lock_laws.listed_roots_stay.Goals as goal

pub returns : goal.returns
returns c = listed_roots_stay (record {
  classes = c.paths_have_classes.ensures;
  listed = c.each_path_once.ensures.listed;
  once = c.each_path_once.ensures.once;
  rise = pools_rise;
})
