use Rattle.std.proofs.Common.{◌-◌, length}
use Rattle.interleavings.proofs.Contests.{GoesOn}
use Rattle.interleavings.proofs.waiting.rivals.Given as goal

abbrev pub invariant-items : goal.invariant-items
invariant-items l = GoesOn l.program l.most l.items.items l.contest

abbrev pub decreases-items : goal.decreases-items
decreases-items l = l.most - length l.items.items
