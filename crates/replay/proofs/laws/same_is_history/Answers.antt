use Rattle.replay.proofs.HistoryLemmas.{same_history, history_same}
use Rattle.replay.proofs.laws.same_is_history.Goals as goal

pub returns : goal.returns
returns c = record { same = same_history c.whole_within_some_turns.ensures.over; history = history_same c.more_turns_change_nothing.ensures }
