use Rattle.std.proofs.Common.{◌-◌}
use Rattle.interleavings.proofs.Stopping.{OnTheWay}
use Rattle.interleavings.proofs.world.World.until_stop.Given as goal

abbrev pub invariant-steps : goal.invariant-steps
invariant-steps l = OnTheWay l.thread l.left l.count l.fn.self l.self

abbrev pub decreases-steps : goal.decreases-steps
decreases-steps l = l.left - l.count
