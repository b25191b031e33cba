use Rattle.std.proofs.lemmas.Result.{err_from_is_err_and}
use Rattle.source.specs.declared.token.Sign.TheVariants.{Semicolon}
use Rattle.source.specs.Tokens.{seen}
use Rattle.syntax.specs.Views.{option_of, protection_of}
use Rattle.parser.specs.Working.Declarations.{field_at}
use Rattle.parser.specs.Working.Parts.{maybe_protection}
use Rattle.parser.specs.Theory.Readers.{fails_on}
use Rattle.parser.specs.Theory.Ended.{ended, unended}
use Rattle.parser.proofs.Done.{field_done}
use Rattle.parser.proofs.member.field.Goals as goal

pub returns : goal.returns
returns c =
    let x2 = ended Semicolon (maybe_protection c.args.room) (seen c.in_ok-name.rest.now) c.protection.result (option_of protection_of) (λ r. seen r.now) c.in_ok-protection.protection _ c.protection.ensures c.in_ok-protection.ensures in
    field_done (seen c.args.tokens.now) c.in_ok-value_type.ensures c.args.room c.in_ok-name.ensures x2.read x2.sign

pub returns-in_err-value_type : goal.returns-in_err-value_type
unfolding field_at
returns-in_err-value_type c =
    let p = err_from_is_err_and c.from_residual.result c.from_residual.ensures.1 in
    rw (p.1, p.2) (fails_on c.in_err-value_type.field-0.0 _ _ c.in_err-value_type.ensures)

pub returns-in_err-name : goal.returns-in_err-name
unfolding field_at
returns-in_err-name c =
    let p = err_from_is_err_and c.from_residual-in_err-name.result c.from_residual-in_err-name.ensures.1 in
    rw (p.1, p.2, c.in_ok-value_type.ensures) (fails_on c.in_err-name.field-0.0 _ _ c.in_err-name.ensures)

pub returns-in_err-protection : goal.returns-in_err-protection
unfolding field_at
returns-in_err-protection c =
    let p = err_from_is_err_and c.from_residual-in_err-protection.result c.from_residual-in_err-protection.ensures.1 in
    rw (p.1, p.2, c.in_ok-value_type.ensures, c.in_ok-name.ensures) (unended Semicolon (maybe_protection c.args.room) (seen c.in_ok-name.rest.now) c.protection.result (option_of protection_of) (λ r. seen r.now) c.in_err-protection.field-0.0 _ c.protection.ensures c.in_err-protection.ensures)
