use Rattle.std.proofs.Common.{take, ◌≡◌}
use Rattle.moved_cells.specs.Working.Grants.{values_on}
use Rattle.lock_manager.proofs.values.cells_with.Given as goal

abbrev pub invariant-loop-cell : goal.invariant-loop-cell
invariant-loop-cell l = l.cells ≡ values_on l.values (take l.cell-index l.row)
