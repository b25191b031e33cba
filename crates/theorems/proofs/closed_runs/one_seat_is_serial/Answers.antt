use Rattle.theorems.proofs.OneSeat.{is_serial}
use Rattle.theorems.proofs.closed_runs.one_seat_is_serial.Goals as goal

pub returns : goal.returns
returns c = is_serial c.at_most_one_serial.ensures
