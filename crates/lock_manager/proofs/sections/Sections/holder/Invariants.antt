use Rattle.std.proofs.Common.{ℕ, ◌<◌}
use Rattle.lock_manager.specs.Working.Managers.{Holds}
use Rattle.lock_manager.proofs.sections.Sections.holder.Given as goal

abbrev pub invariant-loop-thread : goal.invariant-loop-thread
invariant-loop-thread l = (t : ℕ) → t < l.thread → Holds l.self t l.lock → ⊥
