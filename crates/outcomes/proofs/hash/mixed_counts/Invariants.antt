use Rattle.std.proofs.Common.{◌≡◌, drop}
use Rattle.outcomes.specs.Working.Hashes.{mixed_all}
use Rattle.outcomes.proofs.hash.mixed_counts.Given as goal

-- the rest, mixed into the hash so far, gives the whole hash
abbrev pub invariant-loop-count : goal.invariant-loop-count
invariant-loop-count l = mixed_all l.hasher (drop l.count-index l.done) ≡ mixed_all l.fn.start l.done
