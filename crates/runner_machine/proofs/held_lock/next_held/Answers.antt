use Rattle.runner_machine.proofs.Appended.{appended}
use Rattle.runner_machine.proofs.held_lock.next_held.Goals as goal

pub returns-clause-runs : goal.returns-clause-runs
returns-clause-runs c =
    appended c.args.held.now (record { lock = c.args.lock; first = c.cells_of.result; count = c.args.count; head = c.head_for.result })
    c.requires.runs c.cells_of.ensures c.head_for.ensures
