use Rattle.std.proofs.Common.{◌≡◌, ◌<◌, ◌≤◌, ℕ, length}
use Rattle.std.specs.Prelude.{slice_index}
use Rattle.outcomes.specs.Working.Grouping.{relabelled}
use Rattle.outcomes.proofs.groups.relabel.Given as goal

abbrev pub invariant-loop-thread : goal.invariant-loop-thread
invariant-loop-thread l = record {
  long : length l.groups.items ≡ length l.initial.groups.items;
  done : (t : ℕ) → t < l.thread → slice_index l.groups.items t ≡ relabelled l.from l.to
      (slice_index l.initial.groups.items t);
  left : (t : ℕ) → l.thread ≤ t → slice_index l.groups.items t ≡ slice_index l.initial.groups.items t;
}
