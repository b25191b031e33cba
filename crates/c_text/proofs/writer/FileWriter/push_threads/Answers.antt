use Rattle.c_text.specs.Mains.{threads_text}
use Rattle.c_text.proofs.writer.FileWriter.push_threads.Goals as goal

pub returns : goal.returns
unfolding threads_text
returns c = c.write.ensures.bytes
