use Rattle.std.proofs.Common.{take, ◌≡◌, None}
use Rattle.code.specs.Memory.{value_at}
use Rattle.lock_manager.proofs.writes.searched.Given as goal

abbrev pub invariant-loop-number : goal.invariant-loop-number
invariant-loop-number l = value_at (take l.number-index l.writes) l.cell ≡ None
