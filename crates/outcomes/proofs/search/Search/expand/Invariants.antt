use Rattle.std.proofs.Common.{◌≡◌}
use Rattle.outcomes.specs.Working.Steps.{GoesOn, made_below, state_in}
use Rattle.outcomes.proofs.search.Search.expand.Given as goal

-- the calls of the threads so far were made
abbrev pub invariant-loop-thread : goal.invariant-loop-thread
invariant-loop-thread l = record {
  goes : GoesOn l.self l.fn.work l.work (made_below l.self l.from l.thread);
  there : l.work.heap ≡ (state_in l.self l.from).left.cells;
}
