use Rattle.std.proofs.Common.{◌≤◌, vec_capacity}
use Rattle.interleavings.specs.Working.States.{AreReady}
use Rattle.interleavings.proofs.stepping.all_ready.Given as goal

abbrev pub invariant-loop-thread : goal.invariant-loop-thread
invariant-loop-thread l = record {
  room : l.count ≤ vec_capacity l.states;
  ready : AreReady l.thread l.states.items;
}
