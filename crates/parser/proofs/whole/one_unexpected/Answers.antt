use Rattle.parser.proofs.Programs.{only_unexpected}
use Rattle.parser.proofs.whole.one_unexpected.Goals as goal

pub returns : goal.returns
returns c = only_unexpected
