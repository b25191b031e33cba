use Rattle.std.proofs.Common.{◌∙◌, sym, subst, length, ap}
use Rattle.std.specs.List.{Contains}
use Rattle.locks.specs.declared.lock.Lock.{Lock}
use Rattle.layout.specs.LockCells.{cells_of}
use Rattle.moved_cells.specs.Working.Grants.{GrantOf, IsWhole}
use Rattle.lock_manager.proofs.Lists.{item_at, item_fails, item_more, all_whole}
use Rattle.lock_manager.proofs.fitting.are_whole.Goals as goal

pub cells_of-count-requires : goal.cells_of-count-requires
cells_of-count-requires c =
    subst (λ (l : Lock). Contains c.args.layout.now.locks l) (sym c.lock.ensures)
    (item_at (λ (g : GrantOf). Contains c.args.layout.now.locks g.lock) c.args.grants.now c.loop-grant.grant-index c.grant-item.result c.loop-grant-test.true c.grant-item.is c.requires)

pub returns-then-values-count : goal.returns-then-values-count
returns-then-values-count c =
    item_fails (IsWhole c.args.layout.now.cell_locks) c.args.grants.now c.loop-grant.grant-index c.grant-item.result c.loop-grant-test.true c.grant-item.is
    (λ whole. c.if-values-count.true (ap length c.values.ensures ∙ whole ∙ ap (λ (l : Lock). length (cells_of c.args.layout.now.cell_locks l)) (sym c.lock.ensures) ∙ sym c.cells_of-count.ensures))

pub loop-grant-preserved : goal.loop-grant-preserved
loop-grant-preserved c =
    item_more (IsWhole c.args.layout.now.cell_locks) c.args.grants.now c.loop-grant.grant-index c.grant-item.result c.loop-grant-test.true c.grant-item.is
    c.loop-grant.invariant
    (sym (ap length c.values.ensures) ∙ c.if-values-count.false ∙ c.cells_of-count.ensures ∙ ap (λ (l : Lock). length (cells_of c.args.layout.now.cell_locks l)) c.lock.ensures)

pub returns : goal.returns
returns c = all_whole (IsWhole c.args.layout.now.cell_locks) c.args.grants.now c.loop-grant.grant-index c.loop-grant.invariant c.loop-grant-test.false
