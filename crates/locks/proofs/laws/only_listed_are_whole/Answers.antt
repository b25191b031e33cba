use Rattle.locks.proofs.Unlisted.{listed_are_whole, others_are_unlisted, listless_are_unlisted}
use Rattle.locks.proofs.laws.only_listed_are_whole.Goals as goal

pub returns-clause-listed : goal.returns-clause-listed
returns-clause-listed c = listed_are_whole

pub returns-clause-other : goal.returns-clause-other
returns-clause-other c = others_are_unlisted

pub returns-clause-listless : goal.returns-clause-listless
returns-clause-listless c = listless_are_unlisted
