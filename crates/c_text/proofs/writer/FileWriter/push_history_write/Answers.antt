use Rattle.c_text.specs.Histories.{write_text}
use Rattle.c_text.proofs.writer.FileWriter.push_history_write.Goals as goal

pub returns : goal.returns
unfolding write_text
returns c = c.write.ensures.bytes
