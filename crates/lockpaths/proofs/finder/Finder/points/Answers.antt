use Rattle.std.proofs.Common.{◌∙◌}
use Rattle.flow.specs.Working.PointList.{point_at}
use Rattle.lockpaths.proofs.Going.{points_next, points_past}
use Rattle.lockpaths.specs.Working.Told.{seen}
use Rattle.lockpaths.proofs.finder.Finder.points.Goals as goal

pub loop-point-preserved : goal.loop-point-preserved
loop-point-preserved c =
    points_next c.args.self.now (seen c.loop-point.found) (seen c.point.new.found) point_at c.args.points.now c.loop-point.point-index c.point-item.result c.loop-point-test.true c.point-item.is
    c.in_ok-point.ensures
    ∙ c.loop-point.invariant

pub returns : goal.returns
returns c = points_past c.args.self.now (seen c.loop-point.found) _ point_at c.args.points.now c.loop-point.point-index c.loop-point-test.false c.loop-point.invariant
