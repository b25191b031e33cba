use Rattle.replay.proofs.PlainCalls.{plain_told}
use Rattle.replay.proofs.laws.plain_calls_are_told.Goals as goal

pub returns : goal.returns
returns c = plain_told
