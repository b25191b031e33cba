use Rattle.core_lang_helpers.proofs.Listed.{listed_true, true_listed}
use Rattle.core_lang_helpers.proofs.call_laws.listed_faults.Goals as goal

pub returns-clause-listed : goal.returns-clause-listed
returns-clause-listed c = λ graph f h. listed_true graph f h

pub returns-clause-all : goal.returns-clause-all
returns-clause-all c = λ graph code p h. true_listed graph code p h
