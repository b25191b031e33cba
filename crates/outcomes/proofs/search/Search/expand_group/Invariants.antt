use Rattle.std.proofs.Common.{◌≡◌}
use Rattle.outcomes.specs.Working.Steps.{GoesOn, state_in}
use Rattle.outcomes.specs.Working.Reducing.{by_group}
use Rattle.outcomes.proofs.search.Search.expand_group.Given as goal

-- the calls of the group's threads so far were made
abbrev pub invariant-loop-thread : goal.invariant-loop-thread
invariant-loop-thread l = record {
  goes : GoesOn l.self l.fn.work l.work (by_group l.self l.groups l.group (state_in l.self l.from) l.thread);
  there : l.work.heap ≡ (state_in l.self l.from).left.cells;
}
