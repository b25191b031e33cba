use Rattle.test_support.proofs.manager_calls.Calls.into_said.Given as goal

abbrev pub decreases-loop-ticket : goal.decreases-loop-ticket
decreases-loop-ticket l = goal.left-loop-ticket l
