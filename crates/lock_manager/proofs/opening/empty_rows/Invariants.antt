use Rattle.std.proofs.Common.{◌≡◌, replicate, []}
use Rattle.lock_manager.specs.Working.Committed.{rows}
use Rattle.lock_manager.proofs.opening.empty_rows.Given as goal

abbrev pub invariant-loop : goal.invariant-loop
invariant-loop l = rows l.all.items ≡ replicate l.counter []
