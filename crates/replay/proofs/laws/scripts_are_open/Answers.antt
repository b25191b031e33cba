use Rattle.replay.proofs.OpenHistories.{scripts_open}
use Rattle.replay.proofs.laws.scripts_are_open.Goals as goal

pub returns : goal.returns
returns c = scripts_open
