use Rattle.std.proofs.Common.{◌≡◌, drop}
use Rattle.std.specs.Prelude.{slice_get}
use Rattle.lock_manager.specs.Working.Queues.{waiting_in}
use Rattle.lock_manager.proofs.queue.Queue.nth.Given as goal

abbrev pub invariant-loop-waiter : goal.invariant-loop-waiter
invariant-loop-waiter l = slice_get (waiting_in l.self l.lock) l.i ≡ slice_get (waiting_in (drop l.waiter-index l.self) l.lock) l.left
