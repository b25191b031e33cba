use Rattle.language_server.proofs.TakeLines.{lines}
use Rattle.language_server.proofs.hint_laws.takes_are_lines_of_check.Goals as goal

pub returns : goal.returns
returns c = lines
