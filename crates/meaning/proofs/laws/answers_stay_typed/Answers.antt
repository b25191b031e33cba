use Rattle.meaning.proofs.CanBeCalled.{answers_typed}
use Rattle.meaning.proofs.laws.answers_stay_typed.Goals as goal

pub returns : goal.returns
returns c = answers_typed c.never_astray.ensures
