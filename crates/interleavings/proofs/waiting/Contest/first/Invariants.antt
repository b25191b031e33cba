use Rattle.std.proofs.Common.{◌≡◌}
use Rattle.interleavings.specs.Rivals.{first_to_go}
use Rattle.interleavings.proofs.waiting.Contest.first.Given as goal

-- no thread before this one goes on
abbrev pub invariant-threads : goal.invariant-threads
invariant-threads l =
    first_to_go l.self.world.plan l.self.world.world l.besides l.thread
    ≡ first_to_go l.self.world.plan l.self.world.world l.besides l.initial.from
