use Rattle.std.proofs.Common.{take}
use Rattle.std.specs.List.{All}
use Rattle.lock_manager.specs.Working.Calls.{IsOwnWrite}
use Rattle.lock_manager.proofs.manager.Manager.are_own.Given as goal

abbrev pub invariant-loop-write : goal.invariant-loop-write
invariant-loop-write l = All (IsOwnWrite l.self.layout.cell_locks l.ticket.session.held) (take l.write-index l.writes)
