use Rattle.meaning.specs.Working.Execution.{state_of}
use Rattle.meaning.proofs.Calls.{argument_fails, gives_none}
use Rattle.meaning.proofs.Leads.{value_there}
use Rattle.meaning.proofs.execution.Execution.values.Goals as goal

pub returns-in_err-value : goal.returns-in_err-value
returns-in_err-value c =
    gives_none _ _ _ c.from_residual-in_err-value.ensures.1
    (argument_fails _ _ c.argument-item.result _ _ _ _ _ _ c.loop-argument-test.true c.argument-item.is
    (value_there c.argument-item.result c.args.shape.now (state_of c.args.self.now) _ _ _ c.deref.ensures.value c.cells.ensures c.in_err-value.ensures)
    c.loop-argument.invariant)
