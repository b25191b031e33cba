use Rattle.std.specs.Prelude.{string_bytes}
use Rattle.c_data.specs.Theory.Steps.{after, both}
use Rattle.c_data.specs.Pools.{pool_written}
use Rattle.c_data.proofs.pools.push_written.Goals as goal

pub returns : goal.returns
unfolding pool_written
returns c =
    let old = string_bytes c.args.out.now in
    let t2 = both old _ _ _ _ c.in_ok-push_str.ensures.bytes c.in_ok-push_within.ensures in
    let t3 = both old _ _ _ _ t2 c.in_ok-write.ensures.bytes in
    after _ old _ _ _ _ t3 c.write-2.ensures.bytes
