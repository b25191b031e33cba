use Rattle.theorems.proofs.Calls.{does_what_it_does, gives_what_it_gives}
use Rattle.theorems.proofs.meanings.a_call_is_the_helper.Goals as goal

pub returns-clause-drops : goal.returns-clause-drops
returns-clause-drops c = does_what_it_does

pub returns-clause-gives : goal.returns-clause-gives
returns-clause-gives c = gives_what_it_gives
