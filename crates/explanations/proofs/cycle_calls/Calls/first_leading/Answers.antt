use Rattle.std.proofs.Common.{length, refl, rules, sym}
use Rattle.std.proofs.lemmas.Option.{slice_get_read}
use Rattle.flow.specs.Working.PointList.{point_at}
use Rattle.explanations.specs.CycleCalls.{deepest, leads}
use Rattle.explanations.proofs.Leading.{found_at, none_more}
use Rattle.explanations.proofs.cycle_calls.Calls.first_leading.Goals as goal

pub returns-then-branch : goal.returns-then-branch
returns-then-branch c =
    sym (found_at point_at (leads c.args.self.now.program.now deepest c.args.at) c.args.points.now c.loop-point.point-index c.point-item.result
    (slice_get_read c.args.points.now (length c.args.points.now) c.loop-point.point-index c.point-item.result refl c.loop-point-test.true c.point-item.is)
    c.loop-point.invariant (search rules))

pub loop-point-preserved : goal.loop-point-preserved
loop-point-preserved c =
    none_more point_at (leads c.args.self.now.program.now deepest c.args.at) c.args.points.now c.loop-point.point-index c.point-item.result
    (slice_get_read c.args.points.now (length c.args.points.now) c.loop-point.point-index c.point-item.result refl c.loop-point-test.true c.point-item.is)
    c.loop-point.invariant (search rules)
