use Rattle.outcomes.proofs.Apart.{other_cells}
use Rattle.outcomes.proofs.independence_laws.other_cells_change_nothing.Goals as goal

pub returns : goal.returns
returns c = other_cells
