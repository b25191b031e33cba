use Rattle.theorems.proofs.Runs.{told_so}
use Rattle.theorems.proofs.ends_told.every_end_is_told.Goals as goal

pub returns : goal.returns
returns c = told_so c.every_run.ensures
