use Rattle.replay.proofs.OneVerdict.{one_verdict}
use Rattle.replay.proofs.laws.at_most_one_verdict.Goals as goal

pub returns : goal.returns
returns c = one_verdict
