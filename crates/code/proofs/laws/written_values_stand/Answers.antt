use Rattle.code.specs.Theory.Values.{written_cell, unwritten_cell, length-overwritten}
use Rattle.code.proofs.laws.written_values_stand.Goals as goal

pub returns-clause-written : goal.returns-clause-written
returns-clause-written c = written_cell

pub returns-clause-unwritten : goal.returns-clause-unwritten
returns-clause-unwritten c = unwritten_cell

pub returns-clause-size : goal.returns-clause-size
returns-clause-size c = length-overwritten
