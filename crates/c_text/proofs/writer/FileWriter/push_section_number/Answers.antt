use Rattle.c_text.specs.Histories.{section_number}
use Rattle.c_text.proofs.writer.FileWriter.push_section_number.Goals as goal

pub returns : goal.returns
unfolding section_number
returns c = c.write.ensures.bytes
