use Rattle.theorems.proofs.Told.{are_told}
use Rattle.theorems.proofs.closed_runs.closed_ends_are_told.Goals as goal

pub returns : goal.returns
returns c = are_told c.at_most_one_serial.ensures c.closed_runs_are_simulated.ensures c.every_end_is_told.ensures
