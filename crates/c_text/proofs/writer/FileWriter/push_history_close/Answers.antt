use Rattle.c_text.specs.Histories.{close_text}
use Rattle.c_text.proofs.writer.FileWriter.push_history_close.Goals as goal

pub returns : goal.returns
unfolding close_text
returns c = c.write.ensures.bytes
