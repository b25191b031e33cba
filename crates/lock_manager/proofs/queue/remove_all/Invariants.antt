use Rattle.std.proofs.Common.{◌≡◌, ◌≢◌, ◌-◌, ◌≤◌, take, vec_len, vec_capacity}
use Rattle.std.specs.List.{All}
use Rattle.lock_manager.specs.declared.queue.Waiter.{Waiter}
use Rattle.lock_manager.specs.Working.Queues.{leaving}
use Rattle.lock_manager.proofs.queue.remove_all.Given as goal

abbrev pub invariant-loop-i : goal.invariant-loop-i
invariant-loop-i l = record {
  left : leaving l.thread l.waiters.items ≡ leaving l.thread l.fn.waiters.items;
  others : All (λ (w : Waiter). w.thread ≢ l.thread) (take l.i l.waiters.items);
  within : l.i ≤ vec_len l.waiters;
  capacity : vec_capacity l.waiters ≡ vec_capacity l.fn.waiters;
}

abbrev pub decreases-loop-i : goal.decreases-loop-i
decreases-loop-i l = vec_len l.waiters - l.i
