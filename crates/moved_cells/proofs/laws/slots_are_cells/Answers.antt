use Rattle.std.proofs.Common.{}
use Rattle.layout.specs.LockCells.{cells_of}
use Rattle.moved_cells.proofs.Numbered.{cells_rise, numbered_cells, found_at, changed_at}
use Rattle.moved_cells.proofs.laws.slots_are_cells.Goals as goal

pub returns-clause-cells : goal.returns-clause-cells
returns-clause-cells c = λ cell_locks grant whole. numbered_cells (cells_of cell_locks grant.lock) grant.values whole

pub returns-clause-read : goal.returns-clause-read
returns-clause-read c = λ cell_locks grant cell offset whole slot.
    found_at 0 (cells_of cell_locks grant.lock) grant.values cell offset (cells_rise 0 cell_locks grant.lock) whole slot.offset_is

pub returns-clause-write : goal.returns-clause-write
returns-clause-write c = λ cell_locks grant cell offset v whole slot.
    changed_at 0 (cells_of cell_locks grant.lock) grant.values cell offset v (cells_rise 0 cell_locks grant.lock) whole slot.offset_is
