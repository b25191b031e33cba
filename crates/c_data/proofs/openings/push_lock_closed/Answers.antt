use Rattle.c_data.specs.Theory.Steps.{after}
use Rattle.c_data.specs.Openings.{lock_closed}
use Rattle.c_data.proofs.openings.push_lock_closed.Goals as goal

pub returns : goal.returns
unfolding lock_closed
returns c =
    after _ _ _ _ _ _ c.in_ok-write.ensures.bytes c.write-2.ensures.bytes
