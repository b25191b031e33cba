use Rattle.code.proofs.AlikeLaws.{keeps_held, moves_alike, asks_alike, finishes_alike}
use Rattle.code.proofs.laws.steps_go_alike.Goals as goal

pub returns-clause-keeps : goal.returns-clause-keeps
returns-clause-keeps c = keeps_held

pub returns-clause-moves : goal.returns-clause-moves
returns-clause-moves c = moves_alike

pub returns-clause-asks : goal.returns-clause-asks
returns-clause-asks c = asks_alike

pub returns-clause-finishes : goal.returns-clause-finishes
returns-clause-finishes c = finishes_alike
