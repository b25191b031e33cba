use Rattle.std.proofs.Common.{◌∙◌}
use Rattle.locks.specs.Accesses.{in_condition}
use Rattle.lockpaths.proofs.Going.{over_both, over_compare, over_next}
use Rattle.lockpaths.specs.Working.Told.{seen}
use Rattle.lockpaths.proofs.finder.Finder.+conditions.Goals as goal

pub condition-returns-in_ok-condition-in-And : goal.condition-returns-in_ok-condition-in-And
condition-returns-in_ok-condition-in-And t c =
    over_both c.args.self.now _ _ _ _ _ _ _ _ c.in-And.is c.deref-in-And.ensures.value c.deref-in-And-2.ensures c.in_ok-conditions-in-And.ensures
    c.in_ok-condition-in-And.ensures

pub condition-returns-in_ok-expr-in-Compare-2 : goal.condition-returns-in_ok-expr-in-Compare-2
condition-returns-in_ok-expr-in-Compare-2 t c =
    over_compare c.args.self.now (seen c.args.found.now) (seen c.expr.new.found) (seen c.expr-in-Compare.new.found) c.args.condition.now c.in-Compare.field-0 c.in-Compare.a c.in-Compare.b c.in-Compare.is
    c.in_ok-expr-in-Compare.ensures c.in_ok-expr-in-Compare-2.ensures

pub conditions-loop-condition-preserved : goal.conditions-loop-condition-preserved
conditions-loop-condition-preserved t c =
    over_next c.args.self.now (seen c.loop-condition.found) (seen c.condition.new.found) in_condition c.args.conditions.now c.loop-condition.condition-index c.condition-item.result
    c.loop-condition-test.true c.condition-item.is c.in_ok-condition.ensures
    ∙ c.loop-condition.invariant
