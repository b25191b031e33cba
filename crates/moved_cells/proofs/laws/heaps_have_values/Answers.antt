use Rattle.std.proofs.Common.{arith}
use Rattle.moved_cells.proofs.Numbered.{values_whole, values_agree}
use Rattle.moved_cells.proofs.laws.heaps_have_values.Goals as goal

pub returns-clause-whole : goal.returns-clause-whole
returns-clause-whole c = λ cell_locks heap lock e. values_whole 0 cell_locks lock heap (omega (arith, e))

pub returns-clause-agree : goal.returns-clause-agree
returns-clause-agree c = λ cell_locks heap lock e. values_agree 0 cell_locks lock heap (omega (arith, e))
