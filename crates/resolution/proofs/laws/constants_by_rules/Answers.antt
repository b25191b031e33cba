use Rattle.resolution.proofs.ConstantRules.{sort_ruled, sort_is, const_ruled, const_is, arguments_ruled, arguments_is}
use Rattle.resolution.proofs.ConstantRules.{opened_ruled, opened_is, reference_ruled, referred_is}
use Rattle.resolution.proofs.laws.constants_by_rules.Goals as goal

pub returns-clause-sorts : goal.returns-clause-sorts
returns-clause-sorts c = λ decls x s. (sort_ruled decls x s, sort_is)

pub returns-clause-constants : goal.returns-clause-constants
returns-clause-constants c = λ decls w x v. (const_ruled decls w x v, const_is)

pub returns-clause-arguments : goal.returns-clause-arguments
returns-clause-arguments c = λ decls ps cs vs. (arguments_ruled decls ps cs vs, arguments_is)

pub returns-clause-openings : goal.returns-clause-openings
returns-clause-openings c = λ decls t given v. (opened_ruled decls t given v, opened_is)

pub returns-clause-references : goal.returns-clause-references
returns-clause-references c = λ decls s x o. (reference_ruled decls s x o, referred_is)
