use Rattle.std.proofs.Common.{◌≡◌, ◌≤◌, ◌++◌, take, drop, length, reverse}
use Rattle.worlds.specs.Asking.{insert}
use Rattle.runner.proofs.pending.place_for.Given as goal

abbrev pub invariant-loop-place : goal.invariant-loop-place
invariant-loop-place l = record {
  within : l.place ≤ length l.falling;
  goes : insert l.ranks l.lock (reverse l.falling)
      ≡ reverse (drop l.place l.falling) ++ insert l.ranks l.lock (reverse (take l.place l.falling));
}

abbrev pub decreases-loop-place : goal.decreases-loop-place
decreases-loop-place l = l.place
