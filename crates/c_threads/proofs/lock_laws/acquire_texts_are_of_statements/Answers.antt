use Rattle.c_threads.proofs.Texts.{acquire_texts, end_texts}
use Rattle.c_threads.proofs.lock_laws.acquire_texts_are_of_statements.Goals as goal

pub returns-clause-acquires : goal.returns-clause-acquires
returns-clause-acquires c = acquire_texts

pub returns-clause-ends : goal.returns-clause-ends
returns-clause-ends c = end_texts
