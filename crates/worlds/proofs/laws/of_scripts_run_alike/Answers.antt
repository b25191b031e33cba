use Rattle.worlds.proofs.Filled.{of_scripts_run_alike}
use Rattle.worlds.proofs.laws.of_scripts_run_alike.Goals as goal

pub returns : goal.returns
returns c = of_scripts_run_alike c.compiled_run_alike.ensures
