use Rattle.outcomes.proofs.Apart.{calls_apart}
use Rattle.outcomes.proofs.independence_laws.calls_apart_commute.Goals as goal

pub returns : goal.returns
returns c = calls_apart
