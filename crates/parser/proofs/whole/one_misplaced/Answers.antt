use Rattle.parser.proofs.Programs.{only_misplaced}
use Rattle.parser.proofs.whole.one_misplaced.Goals as goal

pub returns : goal.returns
returns c = only_misplaced
