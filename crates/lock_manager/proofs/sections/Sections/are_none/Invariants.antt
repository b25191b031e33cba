use Rattle.std.proofs.Common.{◌≡◌, ◌<◌, ℕ, None}
use Rattle.lock_manager.specs.Manager.{session_in}
use Rattle.lock_manager.proofs.sections.Sections.are_none.Given as goal

abbrev pub invariant-loop-thread : goal.invariant-loop-thread
invariant-loop-thread l = (t : ℕ) → t < l.thread → session_in l.self t ≡ None
