use Rattle.std.proofs.Common.{◌∙◌}
use Rattle.locks.specs.Accesses.{in_expr}
use Rattle.lockpaths.proofs.Going.{over_next}
use Rattle.lockpaths.specs.Working.Told.{seen}
use Rattle.lockpaths.proofs.finder.Finder.exprs.Goals as goal

pub loop-e-preserved : goal.loop-e-preserved
loop-e-preserved c =
    over_next c.args.self.now (seen c.loop-e.found) (seen c.expr.new.found) in_expr c.args.list.now c.loop-e.e-index c.e-item.result
    c.loop-e-test.true c.e-item.is c.in_ok-expr.ensures
    ∙ c.loop-e.invariant
