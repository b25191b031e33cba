use Rattle.std.proofs.Common.{take}
use Rattle.outcomes.specs.Working.Marking.{TouchedMore, CallsAreMarked}
use Rattle.outcomes.proofs.touched.Touched.calls.Given as goal

abbrev pub invariant-loop-call : goal.invariant-loop-call
invariant-loop-call l = record {
  more : TouchedMore l.initial.self l.self;
  each : CallsAreMarked l.shape l.bodies l.self l.thread (take l.call-index l.calls);
}
