use Rattle.c_data.specs.Theory.Steps.{after}
use Rattle.c_data.specs.Types.{announced_text}
use Rattle.c_data.proofs.writer.DataWriter.push_announced.Goals as goal

pub returns : goal.returns
unfolding announced_text
returns c =
    after _ _ _ _ _ _ c.in_ok-write.ensures.bytes c.write-2.ensures.bytes
