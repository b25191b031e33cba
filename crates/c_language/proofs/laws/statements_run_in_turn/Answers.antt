use Rattle.c_language.proofs.InTurn.{run_in_turn}
use Rattle.c_language.proofs.laws.statements_run_in_turn.Goals as goal

pub returns : goal.returns
returns g c = run_in_turn
