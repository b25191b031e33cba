use Rattle.theorems.proofs.Added.{same_expansion, same_runs}
use Rattle.theorems.proofs.meanings.uncalled_helpers_change_nothing.Goals as goal

pub returns-clause-expansion : goal.returns-clause-expansion
returns-clause-expansion c = same_expansion

pub returns-clause-runs : goal.returns-clause-runs
returns-clause-runs c = same_runs c.writing_out_changes_nothing.ensures.serial
