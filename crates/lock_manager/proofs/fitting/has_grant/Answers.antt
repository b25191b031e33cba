use Rattle.std.proofs.Common.{sym, ◌∙◌}
use Rattle.moved_cells.specs.Working.Grants.{GrantOf}
use Rattle.lock_manager.proofs.Lists.{is_mapped, not_mapped_more, not_mapped}
use Rattle.locks.specs.Theory.Order.{same_is, other_than}
use Rattle.lock_manager.proofs.fitting.has_grant.Goals as goal

pub loop-grant-preserved : goal.loop-grant-preserved
loop-grant-preserved c =
    not_mapped_more (λ (g : GrantOf). g.lock) c.args.grants.now c.loop-grant.grant-index c.grant-item.result c.args.lock c.loop-grant-test.true c.grant-item.is c.loop-grant.invariant
    (λ e. other_than c.lock.result c.args.lock (sym c.eq.ensures ∙ c.if-eq.false) (c.lock.ensures ∙ e))

pub returns-then-eq : goal.returns-then-eq
returns-then-eq c =
    is_mapped (λ (g : GrantOf). g.lock) c.args.grants.now c.loop-grant.grant-index c.grant-item.result c.args.lock c.loop-grant-test.true c.grant-item.is
    (sym c.lock.ensures ∙ same_is c.lock.result c.args.lock (sym c.eq.ensures ∙ c.if-eq.true))

pub returns : goal.returns
returns c = not_mapped (λ (g : GrantOf). g.lock) c.args.grants.now c.loop-grant.grant-index c.args.lock c.loop-grant.invariant c.loop-grant-test.false
