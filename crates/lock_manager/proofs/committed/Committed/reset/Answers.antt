use Rattle.std.proofs.Common.{◌∙◌, length, sym, ap}
use Rattle.lock_manager.specs.Working.Committed.{CommittedOf}
use Rattle.lock_manager.proofs.Members.{within_same}
use Rattle.lock_manager.proofs.committed.Committed.reset.Goals as goal

pub reset-requires-clause-cells : goal.reset-requires-clause-cells
reset-requires-clause-cells c =
    let heap = c.deref.ensures.value ∙ ap (λ (v : CommittedOf). v.values) c.self.view_is in
    within_same c.row.result.now (length c.args.self.now.values) (length c.deref.result.now) (sym (ap length heap)) c.row.ensures.within

pub reset-requires-clause-long : goal.reset-requires-clause-long
reset-requires-clause-long c = c.requires.count ∙ sym (ap length c.row.ensures.cells)
