use Rattle.locks.specs.declared.path.LockPath as written
use Rattle.points.proofs.Mapped.{map_more, map_all}
use Rattle.points.proofs.section.classes_of.Goals as goal

pub loop-path-preserved : goal.loop-path-preserved
loop-path-preserved c =
    map_more (λ (path : written.LockPath). path.class) c.args.paths.now c.loop-path.path-index c.path-item.result c.path-item.result _ _ c.path-item.is
    c.loop-path-test.true c.loop-path.invariant c.in_ok-push.ensures.items

pub returns : goal.returns
returns c =
    map_all (λ (path : written.LockPath). path.class) c.args.paths.now c.loop-path.path-index c.loop-path.classes.items c.loop-path-test.false c.loop-path.invariant
