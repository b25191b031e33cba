use Rattle.std.proofs.Common.{◌≡◌, ◌<◌, ℕ, length, get_or}
use Rattle.outcomes.proofs.groups.alone.Given as goal

abbrev pub invariant-loop-thread : goal.invariant-loop-thread
invariant-loop-thread l = record {
  long : length l.groups.items ≡ l.thread;
  apart : (k : ℕ) → k < l.thread → get_or l.groups.items k 0 ≡ k;
}
