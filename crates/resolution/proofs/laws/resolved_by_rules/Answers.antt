use Rattle.resolution.specs.Tables.{nothing_yet}
use Rattle.resolution.proofs.Ruled.{all_ruled, all_built}
use Rattle.resolution.proofs.laws.resolved_by_rules.Goals as goal

pub returns-clause-there : goal.returns-clause-there
returns-clause-there c = λ decls p e. all_ruled decls 0 decls nothing_yet p e

pub returns-clause-back : goal.returns-clause-back
returns-clause-back c = λ decls p a. all_built decls 0 decls nothing_yet p a
