use Rattle.c_text.specs.Histories.{seat_text}
use Rattle.c_text.proofs.writer.FileWriter.push_history_seat.Goals as goal

pub returns : goal.returns
unfolding seat_text
returns c = c.write.ensures.bytes
