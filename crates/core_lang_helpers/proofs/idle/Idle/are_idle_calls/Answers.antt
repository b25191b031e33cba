use Rattle.std.proofs.Common.{refl}
use Rattle.core_lang_helpers.specs.Working.IdleHelpers.{is_idle}
use Rattle.core_lang_helpers.proofs.IdleCalls.{one_more_call}
use Rattle.core_lang_helpers.proofs.idle.Idle.are_idle_calls.Goals as goal

pub loop-statement-preserved : goal.loop-statement-preserved
loop-statement-preserved c =
    one_more_call (is_idle c.args.self.now.helpers.now c.args.depth) c.args.statements.now c.loop-statement.statement-index c.statement-item.result
    c.loop-statement-test.true c.statement-item.is c.loop-statement.invariant (c.if-not-is_idle_call.ensures refl)
