use Rattle.outcomes.proofs.Views.{behind_either, over_conditions}
use Rattle.outcomes.proofs.accesses.+tests.Goals as goal

pub returns-in_ok-push_tests-in-And-2 : goal.returns-in_ok-push_tests-in-And-2
returns-in_ok-push_tests-in-And-2 t c =
    behind_either _ _ _ _ _ _ _ _ c.in-And.is c.deref-in-And.ensures c.deref-c-items.ensures.value
    (over_conditions _ c.loop-c.c-index _ _ c.loop-c-test.false c.loop-c.invariant) c.in_ok-push_tests-in-And-2.ensures
