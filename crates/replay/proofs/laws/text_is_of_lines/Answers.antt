use Rattle.replay.proofs.TextLemmas.{text_of_lines}
use Rattle.replay.proofs.laws.text_is_of_lines.Goals as goal

pub returns : goal.returns
returns c = text_of_lines
