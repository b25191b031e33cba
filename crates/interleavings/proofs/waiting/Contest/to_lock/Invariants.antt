use Rattle.std.proofs.Common.{◌-◌}
use Rattle.interleavings.proofs.Contests.{OnWay}
use Rattle.interleavings.proofs.waiting.Contest.to_lock.Given as goal

abbrev pub invariant-steps : goal.invariant-steps
invariant-steps l = OnWay l.thread l.count l.fn.self l.self

abbrev pub decreases-steps : goal.decreases-steps
decreases-steps l = l.left - l.count
