use Rattle.replay.proofs.SerialHistories.{one_history}
use Rattle.replay.proofs.laws.one_order_one_history.Goals as goal

pub returns : goal.returns
returns c = one_history c.at_most_one_serial.ensures
