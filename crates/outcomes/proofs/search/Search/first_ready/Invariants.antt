use Rattle.std.proofs.Common.{◌≡◌, None}
use Rattle.outcomes.specs.Working.Reducing.{first_ready}
use Rattle.outcomes.proofs.search.Search.first_ready.Given as goal

-- no thread so far has a call left
abbrev pub invariant-loop-thread : goal.invariant-loop-thread
invariant-loop-thread l = first_ready l.self.program.now l.done l.thread ≡ None
