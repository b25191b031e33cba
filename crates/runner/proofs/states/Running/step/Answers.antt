use Rattle.runner.proofs.Along.{once_ran}
use Rattle.runner.proofs.states.Running.step.Goals as goal

pub returns-clause-is : goal.returns-clause-is
returns-clause-is c = once_ran c.args.self _ _ c.run-one.ensures.ran c.keeps_its_rules.ensures.running
