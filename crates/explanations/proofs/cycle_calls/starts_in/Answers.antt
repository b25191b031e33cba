use Rattle.std.proofs.Common.{length, refl, rules, sym}
use Rattle.std.proofs.lemmas.Option.{slice_get_read}
use Rattle.std.specs.Prelude.{◌==◌}
use Rattle.flow.specs.Points.{start_of}
use Rattle.flow.specs.Working.PointList.{point_at}
use Rattle.explanations.proofs.Leading.{any_at}
use Rattle.explanations.proofs.cycle_calls.starts_in.Goals as goal

pub returns-then-start-at : goal.returns-then-start-at
returns-then-start-at c =
    sym (any_at point_at (λ p. start_of p == c.args.at) c.args.points.now c.loop-point.point-index c.point-item.result
    (slice_get_read c.args.points.now (length c.args.points.now) c.loop-point.point-index c.point-item.result refl c.loop-point-test.true c.point-item.is)
    (search rules))
