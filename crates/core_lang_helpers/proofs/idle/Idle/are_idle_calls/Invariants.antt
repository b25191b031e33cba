use Rattle.std.proofs.Common.{◌≡◌, true, take}
use Rattle.core_lang_helpers.specs.Working.IdleHelpers.{are_idle_calls, is_idle}
use Rattle.core_lang_helpers.proofs.idle.Idle.are_idle_calls.Given as goal

abbrev pub invariant-loop-statement : goal.invariant-loop-statement
invariant-loop-statement l = are_idle_calls (is_idle l.self.helpers.now l.depth) (take l.statement-index l.statements) ≡ true
