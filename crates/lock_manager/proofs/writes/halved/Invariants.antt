use Rattle.std.proofs.Common.{ℕ, ◌-◌, ◌<◌, ◌≤◌, length, get_or}
use Rattle.core_lang.specs.declared.value.Value.{Value}
use Rattle.lock_manager.proofs.writes.halved.Given as goal

abbrev pub invariant-loop-low : goal.invariant-loop-low
invariant-loop-low l = record {
  below : (i : ℕ) (d : ℕ × Value) → i < l.low → (get_or l.writes i d).0 < l.cell;
  above : (i : ℕ) (d : ℕ × Value) → l.high ≤ i → i < length l.writes → l.cell ≤ (get_or l.writes i d).0;
  order : l.low ≤ l.high;
  within : l.high ≤ length l.writes;
}

abbrev pub decreases-loop-low : goal.decreases-loop-low
decreases-loop-low l = l.high - l.low
