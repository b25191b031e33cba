use Rattle.std.proofs.Common.{take}
use Rattle.std.specs.List.{Contains}
use Rattle.moved_cells.specs.Working.Grants.{locks_of}
use Rattle.lock_manager.proofs.fitting.has_grant.Given as goal

abbrev pub invariant-loop-grant : goal.invariant-loop-grant
invariant-loop-grant l = Contains (locks_of (take l.grant-index l.grants)) l.lock → ⊥
