use Rattle.std.proofs.Common.{take}
use Rattle.std.specs.List.{All}
use Rattle.moved_cells.specs.Working.Grants.{IsWhole}
use Rattle.lock_manager.proofs.fitting.are_whole.Given as goal

abbrev pub invariant-loop-grant : goal.invariant-loop-grant
invariant-loop-grant l = All (IsWhole l.layout.cell_locks) (take l.grant-index l.grants)
