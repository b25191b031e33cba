use Rattle.std.proofs.Common.{◌≡◌}
use Rattle.workers.specs.Seats.{new_seats}
use Rattle.workers.proofs.seating.Seating.of.Given as goal

abbrev pub invariant-loop-thread : goal.invariant-loop-thread
invariant-loop-thread g l = l.seating.seats.items ≡ new_seats l.thread
