use Rattle.std.proofs.Common.{◌≡◌, ◌≢◌, ◌≤◌, ℕ, length, Some}
use Rattle.std.specs.Prelude.{slice_get}
use Rattle.runner_machine.specs.declared.held_lock.HeldLock.{HeldLock}
use Rattle.runner_machine.proofs.held_lock.find.Given as goal

abbrev pub invariant-loop-end : goal.invariant-loop-end
invariant-loop-end l = record {
  within : l.end ≤ length l.held;
  after : (i : ℕ) (e : HeldLock) → l.end ≤ i → slice_get l.held i ≡ Some e → e.lock ≢ l.lock;
}

abbrev pub decreases-loop-end : goal.decreases-loop-end
decreases-loop-end l = l.end
