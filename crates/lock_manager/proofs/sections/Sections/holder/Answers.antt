use Rattle.std.proofs.Common.{length, ap, List, Option, arith}
use Rattle.lock_manager.specs.Manager.{SessionOf}
use Rattle.lock_manager.proofs.Slots.{slot_within}
use Rattle.lock_manager.proofs.sections.Sections.holder.Goals as goal

pub returns : goal.returns
returns c = λ t h. c.loop-thread.invariant t
    (omega (arith, c.loop-thread-test.false, slot_within c.args.self.now t h.session h.is, c.self.invariant, ap (λ (v : List (Option SessionOf)). length v) c.self.view_is)) h

pub returns-then-holds : goal.returns-then-holds
returns-then-holds c = c.holds.ensures.0 c.if-holds.true
