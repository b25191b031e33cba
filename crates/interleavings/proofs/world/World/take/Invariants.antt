use Rattle.std.proofs.Common.{◌≡◌, ◌≤◌, ◌-◌, replicate}
use Rattle.interleavings.specs.Threads.{with_steps}
use Rattle.interleavings.proofs.world.World.take.Given as goal

abbrev pub invariant-loop-left : goal.invariant-loop-left
invariant-loop-left l =
    (l.left ≤ l.turn.count) × (l.self ≡ with_steps l.initial.self (replicate (l.turn.count - l.left) l.turn.thread))

abbrev pub decreases-loop-left : goal.decreases-loop-left
decreases-loop-left l = l.left
