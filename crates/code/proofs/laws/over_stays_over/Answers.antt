use Rattle.code.proofs.Over.{stays_over, ends_once}
use Rattle.code.proofs.laws.over_stays_over.Goals as goal

pub returns-clause-heap : goal.returns-clause-heap
returns-clause-heap c = stays_over

pub returns-clause-held : goal.returns-clause-held
returns-clause-held c = stays_over

pub returns-clause-one_on_heap : goal.returns-clause-one_on_heap
returns-clause-one_on_heap c = ends_once

pub returns-clause-one_on_held : goal.returns-clause-one_on_held
returns-clause-one_on_held c = ends_once
