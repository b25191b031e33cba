use Rattle.std.proofs.Common.{◌≡◌, ◌≤◌, ◌+◌, drop, length}
use Rattle.lock_manager.specs.Working.Queues.{waiting_in}
use Rattle.lock_manager.proofs.queue.Queue.count.Given as goal

abbrev pub invariant-loop-waiter : goal.invariant-loop-waiter
invariant-loop-waiter l = record {
  rest : length (waiting_in l.self l.lock) ≡ l.count + length (waiting_in (drop l.waiter-index l.self) l.lock);
  few : l.count ≤ l.waiter-index;
}
