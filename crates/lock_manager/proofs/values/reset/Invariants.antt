use Rattle.std.proofs.Common.{take, ◌≡◌, length}
use Rattle.moved_cells.specs.Working.Grants.{values_on}
use Rattle.lock_manager.proofs.values.reset.Given as goal

abbrev pub invariant-loop-offset : goal.invariant-loop-offset
invariant-loop-offset l = record {
  made : take l.offset l.cells ≡ values_on l.values (take l.offset l.row);
  long : length l.cells ≡ length l.row;
}
