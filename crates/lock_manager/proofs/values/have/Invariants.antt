use Rattle.std.proofs.Common.{take}
use Rattle.code.specs.Memory.{overwritten, Agrees}
use Rattle.moved_cells.specs.Working.Grants.{numbered}
use Rattle.lock_manager.proofs.values.have.Given as goal

abbrev pub invariant-loop-offset : goal.invariant-loop-offset
invariant-loop-offset l = Agrees (overwritten l.values l.writes.writes.now) (numbered (take l.offset l.cells) (take l.offset l.now))
