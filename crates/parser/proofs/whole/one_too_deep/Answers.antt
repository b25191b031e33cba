use Rattle.parser.proofs.Programs.{only_too_deep}
use Rattle.parser.proofs.whole.one_too_deep.Goals as goal

pub returns : goal.returns
returns c = only_too_deep
