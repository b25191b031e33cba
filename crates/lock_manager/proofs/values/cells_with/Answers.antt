use Rattle.lock_manager.proofs.Heaps.{one_value_more}
use Rattle.std.proofs.lemmas.List.{take_all}
use Rattle.std.proofs.Common.{ap, ◌∙◌}
use Rattle.moved_cells.specs.Working.Grants.{values_on}
use Rattle.lock_manager.proofs.values.cells_with.Goals as goal

pub loop-cell-preserved : goal.loop-cell-preserved
loop-cell-preserved c =
    one_value_more c.args.values.now c.args.row.now c.loop-cell.cell-index 0 _ c.loop-cell.cells c.push.new.self c.loop-cell-test.true
    (c.requires c.loop-cell.cell-index 0 c.loop-cell-test.true) c.loop-cell.invariant c.in_ok-push.ensures.ok

pub returns : goal.returns
returns c = c.loop-cell.invariant ∙ ap (values_on c.args.values.now) (take_all c.loop-cell.cell-index c.args.row.now c.loop-cell-test.false)
