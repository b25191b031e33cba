use Rattle.resolution.proofs.ExpressionRules.{types_is, typed_is}
use Rattle.resolution.proofs.OwnerRules.{target_types, target_is, asks_right, wanted_right, wanted_nothing}
use Rattle.resolution.proofs.OwnerRules.{final_of_type, final_is}
use Rattle.resolution.proofs.StatementRules.{types_stmt, stmt_is, types_body, body_is, types_the_section, section_is}
use Rattle.resolution.proofs.laws.typed_by_rules.Goals as goal

pub returns-clause-expressions : goal.returns-clause-expressions
returns-clause-expressions c = λ sc e r. (types_is sc e r, typed_is)

pub returns-clause-found : goal.returns-clause-found
returns-clause-found c = λ sc p a. target_types sc p a

pub returns-clause-assigned : goal.returns-clause-assigned
returns-clause-assigned c = λ sc p t set h. target_is h

pub returns-clause-wanted : goal.returns-clause-wanted
returns-clause-wanted c = λ sc p. (asks_right sc p, λ t set h. wanted_right h, wanted_nothing sc p)

pub returns-clause-finals : goal.returns-clause-finals
returns-clause-finals c = λ decls t x f. (final_of_type decls t x f, final_is)

pub returns-clause-statements : goal.returns-clause-statements
returns-clause-statements c = λ sc s x. (types_stmt sc s x, stmt_is)

pub returns-clause-bodies : goal.returns-clause-bodies
returns-clause-bodies c = λ sc stmts b. (types_body sc stmts b, body_is)

pub returns-clause-sections : goal.returns-clause-sections
returns-clause-sections c = λ decls limits s x. (types_the_section decls limits s x, section_is)
