use Rattle.std.proofs.Common.{ℕ, ◌+◌, ◌<◌, get_or}
use Rattle.core_lang.specs.declared.value.Value.{Value}
use Rattle.lock_manager.proofs.writes.rise.Given as goal

abbrev pub invariant-loop-k : goal.invariant-loop-k
invariant-loop-k l = (i : ℕ) (d : ℕ × Value) → i + 1 < l.k → (get_or l.writes i d).0 < (get_or l.writes (i + 1) d).0
