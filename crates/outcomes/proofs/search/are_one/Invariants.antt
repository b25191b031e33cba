use Rattle.std.proofs.Common.{◌≡◌, ℕ, ◌<◌, get_or}
use Rattle.outcomes.proofs.search.are_one.Given as goal

-- the threads so far are in the group of the first one
abbrev pub invariant-loop-thread : goal.invariant-loop-thread
invariant-loop-thread l = (k : ℕ) → k < l.thread → get_or l.groups k 0 ≡ get_or l.groups 0 0
