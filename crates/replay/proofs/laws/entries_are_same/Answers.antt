use Rattle.replay.proofs.EntryHistories.{entries_same}
use Rattle.replay.proofs.laws.entries_are_same.Goals as goal

pub returns : goal.returns
returns c = entries_same c.more_turns_change_nothing.ensures c.legal_is_serial.ensures
