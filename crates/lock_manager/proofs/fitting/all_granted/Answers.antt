use Rattle.std.specs.List.{Contains}
use Rattle.std.proofs.lemmas.List.Elements.{All-more}
use Rattle.moved_cells.specs.Working.Grants.{locks_of}
use Rattle.lock_manager.proofs.Lists.{all_fails, all_whole, never_both}
use Rattle.lock_manager.proofs.fitting.all_granted.Goals as goal

pub returns-then-not-has_grant : goal.returns-then-not-has_grant
returns-then-not-has_grant c =
    all_fails (Contains (locks_of c.args.grants.now)) c.args.held.now c.loop-lock.lock-index _ c.loop-lock-test.true
    (λ p. never_both (c.has_grant.ensures.1 p) c.if-not-has_grant.true)

pub loop-lock-preserved : goal.loop-lock-preserved
loop-lock-preserved c =
    All-more (Contains (locks_of c.args.grants.now)) c.args.held.now c.loop-lock.lock-index _ c.loop-lock-test.true c.loop-lock.invariant
    (c.has_grant.ensures.0 c.if-not-has_grant.false)

pub returns : goal.returns
returns c = all_whole (Contains (locks_of c.args.grants.now)) c.args.held.now c.loop-lock.lock-index c.loop-lock.invariant c.loop-lock-test.false
