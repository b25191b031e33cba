use Rattle.std.proofs.Common.{take}
use Rattle.std.specs.List.{Contains, All}
use Rattle.moved_cells.specs.Working.Grants.{locks_of}
use Rattle.lock_manager.proofs.fitting.all_granted.Given as goal

abbrev pub invariant-loop-lock : goal.invariant-loop-lock
invariant-loop-lock l = All (Contains (locks_of l.grants)) (take l.lock-index l.held)
