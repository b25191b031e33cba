use Rattle.std.proofs.Common.{ℕ, List, ◌∙◌, subst, sym, ap, length, arith}
use Rattle.std.specs.List.{Contains}
use Rattle.core_lang.specs.declared.value.Value.{Value}
use Rattle.locks.specs.declared.lock.Lock.{Lock}
use Rattle.code.specs.Memory.{overwritten, Agrees}
use Rattle.layout.specs.LockCells.{cells_of}
use Rattle.moved_cells.specs.Working.Grants.{GrantOf, numbered, cells_in, IsWhole}
use Rattle.lock_manager.specs.Working.Committed.{CommittedOf}
use Rattle.lock_manager.proofs.Lists.{item_at, item_more, all_whole, item_fails, never_both}
use Rattle.lock_manager.proofs.Members.{within_same}
use Rattle.lock_manager.proofs.committed.Committed.are_now.Goals as goal

pub row-row-requires : goal.row-row-requires
row-row-requires c =
    subst (λ (l : Lock). Contains c.args.self.now.layout.locks l) (sym c.lock.ensures)
    (item_at (λ (g : GrantOf). Contains c.args.self.now.layout.locks g.lock) c.args.grants.now c.loop-grant.grant-index c.grant-item.result c.loop-grant-test.true c.grant-item.is c.requires.listed)

pub loop-grant-preserved : goal.loop-grant-preserved
loop-grant-preserved c =
    let heap = c.deref.ensures.value ∙ ap (λ (v : CommittedOf). v.values) c.self.view_is in
    let cells = c.row-row.ensures.cells ∙ ap (λ (l : Lock). cells_of c.args.self.now.layout.cell_locks l) c.lock.ensures in
    let there = ap (λ (cs : List ℕ). numbered cs c.values.result.now) cells ∙ ap (numbered (cells_of c.args.self.now.layout.cell_locks c.grant-item.result.lock)) c.values.ensures in
    item_more (λ (g : GrantOf). Agrees (overwritten c.args.self.now.values c.args.writes.now) (cells_in c.args.self.now.layout.cell_locks g)) c.args.grants.now
    c.loop-grant.grant-index c.grant-item.result c.loop-grant-test.true c.grant-item.is c.loop-grant.invariant
    (subst (λ (h : List Value). Agrees (overwritten h c.args.writes.now) (cells_in c.args.self.now.layout.cell_locks c.grant-item.result)) heap
    (subst (λ (ws : List (ℕ × Value)). Agrees (overwritten c.deref.result.now ws) (cells_in c.args.self.now.layout.cell_locks c.grant-item.result)) c.of-made.ensures
    (subst (Agrees (overwritten c.deref.result.now c.of-made.result.writes.now)) there (c.have.ensures.0 c.if-not-have.false))))

pub returns : goal.returns
returns c =
    all_whole (λ (g : GrantOf). Agrees (overwritten c.args.self.now.values c.args.writes.now) (cells_in c.args.self.now.layout.cell_locks g)) c.args.grants.now
    c.loop-grant.grant-index c.loop-grant.invariant c.loop-grant-test.false

pub have-requires-clause-cells : goal.have-requires-clause-cells
have-requires-clause-cells c =
    let heap = c.deref.ensures.value ∙ ap (λ (v : CommittedOf). v.values) c.self.view_is in
    within_same c.row-row.result.now (length c.args.self.now.values) (length c.deref.result.now) (sym (ap length heap)) c.row-row.ensures.within

pub have-requires-clause-count : goal.have-requires-clause-count
have-requires-clause-count c =
    let cells = c.row-row.ensures.cells ∙ ap (λ (l : Lock). cells_of c.args.self.now.layout.cell_locks l) c.lock.ensures in
    ap length c.values.ensures
    ∙ item_at (IsWhole c.args.self.now.layout.cell_locks) c.args.grants.now c.loop-grant.grant-index c.grant-item.result c.loop-grant-test.true c.grant-item.is c.requires.whole
    ∙ sym (ap length cells)

pub returns-then-not-have : goal.returns-then-not-have
returns-then-not-have c =
    let heap = c.deref.ensures.value ∙ ap (λ (v : CommittedOf). v.values) c.self.view_is in
    let cells = c.row-row.ensures.cells ∙ ap (λ (l : Lock). cells_of c.args.self.now.layout.cell_locks l) c.lock.ensures in
    let there = ap (λ (cs : List ℕ). numbered cs c.values.result.now) cells ∙ ap (numbered (cells_of c.args.self.now.layout.cell_locks c.grant-item.result.lock)) c.values.ensures in
    item_fails (λ (g : GrantOf). Agrees (overwritten c.args.self.now.values c.args.writes.now) (cells_in c.args.self.now.layout.cell_locks g)) c.args.grants.now
    c.loop-grant.grant-index c.grant-item.result c.loop-grant-test.true c.grant-item.is
    (λ agrees. never_both (c.have.ensures.1
    (subst (Agrees (overwritten c.deref.result.now c.of-made.result.writes.now)) (sym there)
    (subst (λ (ws : List (ℕ × Value)). Agrees (overwritten c.deref.result.now ws) (cells_in c.args.self.now.layout.cell_locks c.grant-item.result)) (sym c.of-made.ensures)
    (subst (λ (h : List Value). Agrees (overwritten h c.args.writes.now) (cells_in c.args.self.now.layout.cell_locks c.grant-item.result)) (sym heap) agrees)))) c.if-not-have.true)

pub loop-grant-init : goal.loop-grant-init
loop-grant-init c = λ k d lt. absurd (omega (arith, lt))
