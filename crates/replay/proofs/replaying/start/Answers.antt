use Rattle.std.proofs.Common.{rules, refl}
use Rattle.replay.proofs.Seating.{seats_start}
use Rattle.replay.proofs.replaying.start.Goals as goal

pub returns-clause-at : goal.returns-clause-at
returns-clause-at c = record {
  heap = c.in_ok-open.ensures.opens;
  position = refl;
  seats = search (rules, seats_start);
  due = search rules;
  closed = refl;
}
