use Rattle.std.proofs.Common.{◌≡◌, ◌<◌, [], length, take, get_or}
use Rattle.outcomes.specs.Working.Trails.{IsLonger}
use Rattle.outcomes.proofs.trail.Trail.add.Given as goal

-- the trail has the order so far
abbrev pub invariant-loop-thread : goal.invariant-loop-thread
invariant-loop-thread l = record {
  longer : IsLonger l.initial.self l.self;
  within : l.number < length l.self;
  order : get_or l.self l.number [] ≡ take l.thread-index l.order;
}
