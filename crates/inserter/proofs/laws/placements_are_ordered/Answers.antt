use Rattle.inserter.proofs.Placements.{placements_are_ordered}
use Rattle.inserter.proofs.laws.placements_are_ordered.Goals as goal

pub returns : goal.returns
returns c = placements_are_ordered
