use Rattle.std.proofs.Common.{◌≡◌, ℕ, ◌+◌, ◌<◌, length}
use Rattle.core_lang_helpers.specs.Working.Tables.{unsettled}
use Rattle.core_lang_helpers.specs.Working.Knowledge.{IsSettling, Pends}
use Rattle.core_lang_helpers.proofs.settling.Extents.new.Given as goal

abbrev pub invariant-loop-helper : goal.invariant-loop-helper
invariant-loop-helper l = record {
  same : l.settling.helpers.now ≡ l.callers.helpers.now;
  settling : IsSettling l.settling;
  pend : (f : ℕ) → f < l.helper → Pends l.settling f;
}

abbrev pub invariant-loop-helper-2 : goal.invariant-loop-helper-2
invariant-loop-helper-2 l = record {
  same : l.settling.helpers.now ≡ l.callers.helpers.now;
  settling : IsSettling l.settling;
  pend : (f : ℕ) → Pends l.settling f;
}

abbrev pub decreases-loop-helper-2 : goal.decreases-loop-helper-2
decreases-loop-helper-2 l = unsettled l.settling.table.items + length l.settling.ready.items
