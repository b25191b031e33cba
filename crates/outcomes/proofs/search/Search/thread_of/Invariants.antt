use Rattle.std.proofs.Common.{◌-◌, length}
use Rattle.outcomes.proofs.Drawn.{IsFrom}
use Rattle.outcomes.proofs.search.Search.thread_of.Given as goal

-- the call is not one of the threads so far
abbrev pub invariant-loop-number : goal.invariant-loop-number
invariant-loop-number l = IsFrom l.self.program.now.threads.items l.walk.done.items l.thread l.number

abbrev pub decreases-loop-number : goal.decreases-loop-number
decreases-loop-number l = length l.self.program.now.threads.items - l.thread
