use Rattle.std.proofs.Common.{sym, subst}
use Rattle.std.specs.List.{Contains}
use Rattle.locks.specs.declared.lock.Lock.{Lock}
use Rattle.locks.specs.Theory.Order.{is_contained}
use Rattle.moved_cells.specs.Working.Grants.{GrantOf}
use Rattle.lock_manager.proofs.Lists.{item_fails, item_more, all_whole, never_both}
use Rattle.lock_manager.proofs.fitting.all_held.Goals as goal

pub returns-then-not-is_among : goal.returns-then-not-is_among
returns-then-not-is_among c =
    item_fails (λ (g : GrantOf). Contains c.args.held.now g.lock) c.args.grants.now c.loop-grant.grant-index c.grant-item.result c.loop-grant-test.true c.grant-item.is
    (λ p. never_both ((is_contained c.args.held.now c.lock.result c.is_among.result c.is_among.ensures).1 (subst (λ (l : Lock). Contains c.args.held.now l) (sym c.lock.ensures) p)) c.if-not-is_among.true)

pub loop-grant-preserved : goal.loop-grant-preserved
loop-grant-preserved c =
    item_more (λ (g : GrantOf). Contains c.args.held.now g.lock) c.args.grants.now c.loop-grant.grant-index c.grant-item.result c.loop-grant-test.true c.grant-item.is
    c.loop-grant.invariant (subst (λ (l : Lock). Contains c.args.held.now l) c.lock.ensures ((is_contained c.args.held.now c.lock.result c.is_among.result c.is_among.ensures).0 c.if-not-is_among.false))

pub returns : goal.returns
returns c = all_whole (λ (g : GrantOf). Contains c.args.held.now g.lock) c.args.grants.now c.loop-grant.grant-index c.loop-grant.invariant c.loop-grant-test.false
