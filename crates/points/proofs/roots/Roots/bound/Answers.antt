use Rattle.std.proofs.Common.{◌∙◌, ap, map}
use Rattle.std.proofs.lemmas.List.{take_all}
use Rattle.flow.specs.Working.PointList.{point_at}
use Rattle.points.specs.Working.Scoping.{binds}
use Rattle.points.proofs.Scopings.{bound_more}
use Rattle.points.proofs.roots.Roots.bound.Goals as goal

pub loop-point-preserved : goal.loop-point-preserved
loop-point-preserved c =
    bound_more c.args.self.now.paths.now c.args.points.now c.loop-point.point-index c.point-item.result c.loop-point.sets.items c.push.new.self.items c.bound_at.result
    c.point-item.is c.loop-point-test.true c.loop-point.invariant c.bound_at.ensures c.in_ok-push.ensures.items

pub returns : goal.returns
returns c i =
    c.loop-point.invariant i
    ∙ ap (λ ps. map (binds c.args.self.now.paths.now i) (map point_at ps)) (take_all c.loop-point.point-index c.args.points.now c.loop-point-test.false)
