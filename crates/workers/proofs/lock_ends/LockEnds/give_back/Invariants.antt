use Rattle.std.proofs.Common.{take}
use Rattle.workers.specs.Working.LockEnds.{AreGivenBack}
use Rattle.workers.proofs.lock_ends.LockEnds.give_back.Given as goal

abbrev pub invariant-loop-lock : goal.invariant-loop-lock
invariant-loop-lock l = AreGivenBack l.fn.self (take l.lock-index l.locks) l.long l.self
