use Rattle.std.proofs.Common.{subst}
use Rattle.std.specs.List.{All}
use Rattle.std.proofs.lemmas.List.{take_all}
use Rattle.std.proofs.lemmas.List.Elements.{All-more}
use Rattle.workers.specs.Working.LockEnds.{IsBefore}
use Rattle.workers.proofs.lock_ends.LockEnds.are_before.Goals as goal

pub loop-lock-preserved : goal.loop-lock-preserved
loop-lock-preserved c =
    All-more (IsBefore c.args.self.now c.args.floor) c.args.locks.now c.loop-lock.lock-index _ c.loop-lock-test.true c.loop-lock.invariant
    (c.is_before.ensures c.if-not-is_before.false)

pub returns : goal.returns
returns c = λ t.
    subst (All (IsBefore c.args.self.now c.args.floor)) (take_all c.loop-lock.lock-index c.args.locks.now c.loop-lock-test.false) c.loop-lock.invariant
