use Rattle.theorems.proofs.Quiet.{stands_anywhere}
use Rattle.theorems.proofs.closed_runs.quiet_calls_stand_anywhere.Goals as goal

pub returns : goal.returns
returns c = stands_anywhere
