-- Pending locks. Nobody has to believe this file.
use Rattle.std.specs.Prelude.{ℕ, List}
use Rattle.locks.specs.declared.lock.Lock.{Lock}

-- the pending locks of a section, in lock order, and the number of locks for which there is room
pub record PendingOf : Type 0 where
  pub locks : List Lock
  pub room : ℕ
