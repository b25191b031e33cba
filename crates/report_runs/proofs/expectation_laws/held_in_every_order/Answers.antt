use Rattle.report_runs.proofs.Held.{held_everywhere}
use Rattle.report_runs.proofs.expectation_laws.held_in_every_order.Goals as goal

pub returns : goal.returns
returns c = held_everywhere
