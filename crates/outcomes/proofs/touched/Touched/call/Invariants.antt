use Rattle.std.proofs.Common.{take}
use Rattle.outcomes.specs.Working.Listing.{touches}
use Rattle.outcomes.specs.Working.Marking.{TouchedMore, EachIsMarked}
use Rattle.outcomes.proofs.touched.Touched.call.Given as goal

abbrev pub invariant-loop-access : goal.invariant-loop-access
invariant-loop-access l = record {
  more : TouchedMore l.initial.self l.self;
  each : EachIsMarked l.caller l.self (touches (take l.access-index l.access-items));
}
