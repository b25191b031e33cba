use Rattle.std.proofs.Common.{◌≡◌}
use Rattle.std.specs.List.{All}
use Rattle.workers.proofs.log.Log.of.Given as goal

-- no thread has an entry
abbrev pub invariant-loop : goal.invariant-loop
invariant-loop g l = All (λ n. n ≡ 0) l.ends.items
