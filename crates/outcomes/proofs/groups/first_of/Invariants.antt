use Rattle.std.proofs.Common.{◌≡◌, ◌<◌, ℕ, false}
use Rattle.bit_set.specs.Working.Sets.{has_number}
use Rattle.outcomes.proofs.groups.first_of.Given as goal

abbrev pub invariant-loop-thread : goal.invariant-loop-thread
invariant-loop-thread l = (t : ℕ) → t < l.thread → has_number l.set t ≡ false
