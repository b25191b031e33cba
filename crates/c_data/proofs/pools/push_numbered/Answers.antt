use Rattle.c_data.specs.Theory.Steps.{after}
use Rattle.c_data.specs.Pools.{pool_numbered}
use Rattle.c_data.proofs.pools.push_numbered.Goals as goal

pub returns : goal.returns
unfolding pool_numbered
returns c =
    after _ _ _ _ _ _ c.in_ok-write.ensures.bytes c.write-2.ensures.bytes
