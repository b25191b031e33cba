use Rattle.lowering.proofs.NothingTaken.{nothing_is_taken}
use Rattle.lowering.proofs.laws.no_access_no_acquisition.Goals as goal

pub returns : goal.returns
returns c = nothing_is_taken
