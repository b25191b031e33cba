use Rattle.std.proofs.Common.{◌<◌, ◌^◌, rules}
use Rattle.lockorder.proofs.Bits.{share_decides}
use Rattle.lockorder.proofs.path_sets.share.Goals as goal

pub returns : goal.returns
returns c =
    let fits : c.meet.result.bits < 2 ^ 64 = search rules in
    share_decides c.args.a c.args.b c.meet.result c.meet.ensures fits
