use Rattle.std.proofs.Common.{◌≡◌}
use Rattle.core_lang_helpers.proofs.idle.Idle.new.Given as goal

abbrev pub invariant-loop-number : goal.invariant-loop-number
invariant-loop-number l = l.idle.helpers.now ≡ l.helpers

abbrev pub invariant-loop-below : goal.invariant-loop-below
invariant-loop-below l = l.idle.helpers.now ≡ l.helpers
