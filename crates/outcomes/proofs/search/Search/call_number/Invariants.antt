use Rattle.std.proofs.Common.{◌≡◌, ◌+◌, take, drop}
use Rattle.core_lang.specs.WellFormed.{calls_together}
use Rattle.outcomes.proofs.search.Search.call_number.Given as goal

-- the calls counted so far and those of the remaining threads before this one are all calls before the thread
abbrev pub invariant-loop-other : goal.invariant-loop-other
invariant-loop-other l =
    l.before + calls_together (drop l.other-index l.other-items) ≡ calls_together (take l.thread l.self.program.now.threads.items)
