use Rattle.std.proofs.Common.{take}
use Rattle.std.specs.List.{All}
use Rattle.locks.specs.declared.lock.Lock.{Lock}
use Rattle.locks.specs.Order.{Precedes}
use Rattle.lock_manager.proofs.asking.comes_after.Given as goal

abbrev pub invariant-loop-other : goal.invariant-loop-other
invariant-loop-other l = All (λ (other : Lock). Precedes l.ranks other l.lock) (take l.other-index l.held)
