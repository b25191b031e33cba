use Rattle.std.proofs.Common.{take}
use Rattle.std.specs.List.{All}
use Rattle.code.specs.Memory.{overwritten, Agrees}
use Rattle.moved_cells.specs.Working.Grants.{GrantOf, cells_in}
use Rattle.lock_manager.proofs.committed.Committed.are_now.Given as goal

abbrev pub invariant-loop-grant : goal.invariant-loop-grant
invariant-loop-grant l = All (λ (g : GrantOf). Agrees (overwritten l.self.values l.writes) (cells_in l.self.layout.cell_locks g)) (take l.grant-index l.grants)
