use Rattle.c_language.proofs.Runs.{runs_stand_alike}
use Rattle.c_language.proofs.group_laws.runs_stand_alike.Goals as goal

pub returns : goal.returns
returns g c = runs_stand_alike
