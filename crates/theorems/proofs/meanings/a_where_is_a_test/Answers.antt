use Rattle.theorems.proofs.Owners.{where_holds, where_fails}
use Rattle.theorems.proofs.meanings.a_where_is_a_test.Goals as goal

pub returns-clause-holds : goal.returns-clause-holds
returns-clause-holds c = where_holds

pub returns-clause-fails : goal.returns-clause-fails
returns-clause-fails c = where_fails
