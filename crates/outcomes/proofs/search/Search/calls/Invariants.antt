use Rattle.std.proofs.Common.{◌≡◌, ◌+◌, drop}
use Rattle.core_lang.specs.WellFormed.{calls_together}
use Rattle.outcomes.proofs.search.Search.calls.Given as goal

-- the calls counted so far and those of the remaining threads are all calls
abbrev pub invariant-loop-thread : goal.invariant-loop-thread
invariant-loop-thread l =
    l.count + calls_together (drop l.thread-index l.thread-items) ≡ calls_together l.self.program.now.threads.items
