use Rattle.std.proofs.Common.{◌≡◌, ◌≤◌, ◌<◌, ◌-◌, ◌+◌, ◌++◌, ℕ, length, replicate, vec_len, vec_capacity}
use Rattle.runner_machine.proofs.notes.fill.Given as goal

abbrev pub invariant-loop-marks : goal.invariant-loop-marks
invariant-loop-marks l = record {
  stored : (more : ℕ) × (l.marks.items ≡ l.initial.marks.items ++ replicate more 0);
  within : (long : ℕ) → length l.initial.marks.items ≤ long → l.place < long → length l.marks.items ≤ long;
  capacity : vec_capacity l.initial.marks ≤ vec_capacity l.marks;
}

abbrev pub decreases-loop-marks : goal.decreases-loop-marks
decreases-loop-marks l = (l.place + 1) - vec_len l.marks
