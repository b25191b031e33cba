use Rattle.std.proofs.Common.{◌≡◌, suc, length, ap, arith}
use Rattle.outcomes.specs.Working.Trails.{orders_of}
use Rattle.outcomes.proofs.TrailLemmas.{length-orders}
use Rattle.outcomes.proofs.trail.Trail.len.Goals as goal

pub returns : goal.returns
returns c =
    let steps = c.self.inside.steps.items in
    let same : length (orders_of steps) ≡ length c.args.self.now = ap length c.self.view_is in
    let long : length (orders_of steps) ≡ suc (length steps) = length-orders steps in
    omega (arith, c.len.ensures, same, long)
