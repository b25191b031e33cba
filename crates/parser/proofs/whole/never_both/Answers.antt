use Rattle.parser.proofs.Programs.{never_both}
use Rattle.parser.proofs.whole.never_both.Goals as goal

pub returns : goal.returns
returns c = never_both
