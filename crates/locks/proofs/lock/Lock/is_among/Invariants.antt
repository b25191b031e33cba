use Rattle.std.proofs.Common.{◌≡◌, drop}
use Rattle.locks.specs.Locks.{among}
use Rattle.locks.proofs.lock.Lock.is_among.Given as goal

abbrev pub invariant-loop-other : goal.invariant-loop-other
invariant-loop-other l = among (drop l.other-index l.locks) l.self ≡ among l.locks l.self
