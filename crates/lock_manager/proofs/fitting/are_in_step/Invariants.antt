use Rattle.std.proofs.Common.{◌≡◌, take}
use Rattle.std.specs.List.{All}
use Rattle.moved_cells.specs.Working.Grants.{IsWhole, locks_of}
use Rattle.lock_manager.proofs.fitting.are_in_step.Given as goal

abbrev pub invariant-loop-i : goal.invariant-loop-i
invariant-loop-i l = record {
  same : locks_of (take l.i l.grants) ≡ take l.i l.held;
  whole : All (IsWhole l.layout.cell_locks) (take l.i l.grants);
}
