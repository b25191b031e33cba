use Rattle.code.proofs.AlikeLaws.{halts_alike, halts_on_its_heap}
use Rattle.code.proofs.laws.runs_go_alike.Goals as goal

pub returns-clause-every : goal.returns-clause-every
returns-clause-every c = halts_alike

pub returns-clause-own : goal.returns-clause-own
returns-clause-own c = halts_on_its_heap
