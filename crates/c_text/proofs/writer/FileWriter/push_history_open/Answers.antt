use Rattle.c_text.specs.Histories.{open_text}
use Rattle.c_text.proofs.writer.FileWriter.push_history_open.Goals as goal

pub returns : goal.returns
unfolding open_text
returns c = c.write.ensures.bytes
