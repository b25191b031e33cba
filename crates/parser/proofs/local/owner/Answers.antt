use Rattle.std.proofs.Common.{refl}
use Rattle.std.proofs.lemmas.Result.{err_from_is_err_and}
use Rattle.source.specs.declared.token.Sign.TheVariants.{DoubleEquals}
use Rattle.source.specs.Tokens.{seen}
use Rattle.syntax.specs.Views.{ident}
use Rattle.parser.specs.Working.Reading.{name_at}
use Rattle.parser.specs.Working.Statements.{owner_at}
use Rattle.parser.specs.Theory.Readers.{fails_on}
use Rattle.parser.specs.Theory.Ended.{ended, unended}
use Rattle.parser.proofs.local.owner.Goals as goal

pub returns-in_err-rest : goal.returns-in_err-rest
unfolding owner_at
returns-in_err-rest c =
    let p = err_from_is_err_and c.from_residual.result c.from_residual.ensures.1 in
    rw (p.1, p.2) (fails_on c.in_err-rest.field-0.0 _ _ c.in_err-rest.ensures)

pub returns-in_err-field : goal.returns-in_err-field
unfolding owner_at
returns-in_err-field c =
    let p = err_from_is_err_and c.from_residual-in_err-field.result c.from_residual-in_err-field.ensures.1 in
    rw (p.1, p.2, c.in_ok-rest.ensures) (unended DoubleEquals name_at (seen c.in_ok-rest.rest.now) c.take_name.result ident (λ r. seen r.now) c.in_err-field.field-0.0 _ c.take_name.ensures c.in_err-field.ensures)

pub returns-in_err-local : goal.returns-in_err-local
unfolding owner_at
returns-in_err-local c =
    let x0 = ended DoubleEquals name_at (seen c.in_ok-rest.rest.now) c.take_name.result ident (λ r. seen r.now) c.in_ok-field.field _ c.take_name.ensures c.in_ok-field.ensures in
    let p = err_from_is_err_and c.from_residual-in_err-local.result c.from_residual-in_err-local.ensures.1 in
    rw (p.1, p.2, c.in_ok-rest.ensures, x0.read, x0.sign) (fails_on c.in_err-local.field-0.0 _ _ c.in_err-local.ensures)

pub returns : goal.returns
unfolding owner_at
returns c =
    let x0 = ended DoubleEquals name_at (seen c.in_ok-rest.rest.now) c.take_name.result ident (λ r. seen r.now) c.in_ok-field.field _ c.take_name.ensures c.in_ok-field.ensures in
    rw (c.in_ok-rest.ensures, x0.read, x0.sign, c.in_ok-local.ensures) refl
