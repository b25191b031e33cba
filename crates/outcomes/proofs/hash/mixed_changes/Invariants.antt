use Rattle.std.proofs.Common.{◌≡◌, drop}
use Rattle.outcomes.specs.Working.Hashes.{mixed_changes}
use Rattle.outcomes.proofs.hash.mixed_changes.Given as goal

-- the rest, mixed into the hash so far, gives the whole hash
abbrev pub invariant-loop-change : goal.invariant-loop-change
invariant-loop-change l = mixed_changes l.hasher (drop l.change-index l.changes) ≡ mixed_changes l.fn.start l.changes
