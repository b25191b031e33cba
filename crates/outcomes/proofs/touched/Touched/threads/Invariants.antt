use Rattle.outcomes.specs.Working.Marking.{TouchedMore, ThreadsAreMarked}
use Rattle.outcomes.proofs.touched.Touched.threads.Given as goal

abbrev pub invariant-loop-number : goal.invariant-loop-number
invariant-loop-number l = record {
  more : TouchedMore l.initial.self l.self;
  each : ThreadsAreMarked l.shape l.bodies l.self l.threads l.number;
}
