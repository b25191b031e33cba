use Rattle.code.proofs.runs.Ends.{ends, ends_only}
use Rattle.code.proofs.run_laws.sections_end_alike.Goals as goal

pub returns-clause-ends : goal.returns-clause-ends
returns-clause-ends g c = ends

pub returns-clause-ends_only : goal.returns-clause-ends_only
returns-clause-ends_only g c = ends_only
