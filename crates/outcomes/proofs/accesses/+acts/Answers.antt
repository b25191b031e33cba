use Rattle.outcomes.proofs.Views.{behind_if, behind_if_else, behind_while}
use Rattle.outcomes.proofs.accesses.+acts.Goals as goal

pub push_action-returns-in_ok-push_statements-in-If : goal.push_action-returns-in_ok-push_statements-in-If
push_action-returns-in_ok-push_statements-in-If t c =
    behind_if _ _ _ _ _ _ _ c.in-If.is c.deref.ensures.value c.in_ok-push_tests-in-If.ensures
    c.in_ok-push_statements-in-If.ensures

pub push_action-returns-in_ok-push_statements-in-IfElse-2 : goal.push_action-returns-in_ok-push_statements-in-IfElse-2
push_action-returns-in_ok-push_statements-in-IfElse-2 t c =
    behind_if_else _ _ _ _ _ _ _ _ _ _ c.in-IfElse.is c.deref-in-IfElse.ensures.value c.deref-in-IfElse-2.ensures.value
    c.in_ok-push_tests-in-IfElse.ensures c.in_ok-push_statements-in-IfElse.ensures
    c.in_ok-push_statements-in-IfElse-2.ensures

pub push_action-returns-in_ok-push_statements-in-While : goal.push_action-returns-in_ok-push_statements-in-While
push_action-returns-in_ok-push_statements-in-While t c =
    behind_while _ _ _ _ _ _ _ c.in-While.is c.deref-in-While.ensures.value c.in_ok-push_tests-in-While.ensures
    c.in_ok-push_statements-in-While.ensures
