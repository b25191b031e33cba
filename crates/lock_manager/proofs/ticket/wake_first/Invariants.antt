use Rattle.std.proofs.Common.{◌≡◌, ◌≤◌, ◌++◌, drop, length, vec_len, vec_capacity}
use Rattle.lock_manager.specs.Working.Calls.{first_waiters}
use Rattle.lock_manager.specs.Working.Ties.{awaiting}
use Rattle.lock_manager.proofs.ticket.wake_first.Given as goal

abbrev pub invariant-loop-lock : goal.invariant-loop-lock
invariant-loop-lock l = record {
  so_far : first_waiters l.queue l.held ≡ l.wake.items ++ first_waiters l.queue (drop l.lock-index l.held);
  few : vec_len l.wake ≤ l.lock-index;
  room : length l.held ≤ vec_capacity l.wake;
  left : awaiting l.queue (drop l.lock-index l.held) ≤ l.left;
}
