use Rattle.c_threads.proofs.Scripts.{calls_may_come}
use Rattle.c_threads.proofs.outside.calls_may_come_from_outside.Goals as goal

pub returns : goal.returns
returns c = calls_may_come c.writing_out_changes_nothing.ensures.bound
