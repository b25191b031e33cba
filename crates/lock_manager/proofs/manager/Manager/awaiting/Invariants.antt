use Rattle.std.proofs.Common.{◌≡◌, ◌≤◌, take}
use Rattle.lock_manager.specs.Working.Ties.{awaiting}
use Rattle.lock_manager.proofs.manager.Manager.awaiting.Given as goal

abbrev pub invariant-loop-waiter : goal.invariant-loop-waiter
invariant-loop-waiter l = record {
  so_far : l.count ≡ awaiting (take l.waiter-index l.self.waiters) l.ticket.session.held;
  few : l.count ≤ l.waiter-index;
}
