use Rattle.replay.proofs.SerialHistories.{serial_same}
use Rattle.replay.proofs.laws.serial_is_same.Goals as goal

pub returns : goal.returns
returns c = serial_same
