use Rattle.c_data.specs.Theory.Steps.{after}
use Rattle.c_text.specs.Mains.{serial_text}
use Rattle.c_text.proofs.writer.FileWriter.push_serial.Goals as goal

pub returns : goal.returns
unfolding serial_text
returns c =
    after _ _ _ _ _ _ c.in_ok-write.ensures.bytes c.write-2.ensures.bytes
