use Rattle.std.proofs.Common.{take}
use Rattle.std.specs.List.{All}
use Rattle.workers.specs.Working.LockEnds.{IsBefore}
use Rattle.workers.proofs.lock_ends.LockEnds.are_before.Given as goal

abbrev pub invariant-loop-lock : goal.invariant-loop-lock
invariant-loop-lock l = All (IsBefore l.self l.floor) (take l.lock-index l.locks)
