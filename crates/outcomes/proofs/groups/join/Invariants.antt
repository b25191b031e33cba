use Rattle.std.proofs.Common.{◌≡◌, ◌<◌, ℕ, true}
use Rattle.bit_set.specs.Working.Sets.{has_number}
use Rattle.outcomes.specs.Working.Grouping.{AreTogether, IsCoarser, AreLinked}
use Rattle.outcomes.proofs.groups.join.Given as goal

abbrev pub invariant-loop-thread : goal.invariant-loop-thread
invariant-loop-thread l = record {
  coarser : IsCoarser l.initial.groups.items l.groups.items;
  linked : AreLinked l.initial.groups.items l.groups.items l.fn.readers l.fn.writers;
  joined : (u : ℕ) → u < l.thread → has_number l.touching u ≡ true → AreTogether l.groups.items u l.first;
}
