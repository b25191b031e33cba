use Rattle.c_text.specs.Mains.{start_text}
use Rattle.c_text.proofs.writer.FileWriter.push_start.Goals as goal

pub returns : goal.returns
unfolding start_text
returns c = c.write.ensures.bytes
