use Rattle.c_data.specs.Theory.Steps.{after}
use Rattle.c_data.proofs.pools.push_within.Goals as goal

pub returns : goal.returns
returns c =
    after _ _ _ _ _ _ c.in_ok-write.ensures.bytes c.write-2.ensures.bytes
