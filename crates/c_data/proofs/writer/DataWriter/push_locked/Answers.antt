use Rattle.c_data.specs.Theory.Steps.{after}
use Rattle.c_data.specs.Types.{locked_text}
use Rattle.c_data.proofs.writer.DataWriter.push_locked.Goals as goal

pub returns : goal.returns
unfolding locked_text
returns c =
    after _ _ _ _ _ _ c.in_ok-write.ensures.bytes c.push_all_under.ensures
