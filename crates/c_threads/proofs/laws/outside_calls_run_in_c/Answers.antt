use Rattle.c_threads.proofs.OutsideCalls.{outside_calls_run_in_c}
use Rattle.c_threads.proofs.laws.outside_calls_run_in_c.Goals as goal

pub returns : goal.returns
returns c = outside_calls_run_in_c c.calls_may_come_from_outside.ensures c.every_run_in_c.ensures
