use Rattle.std.proofs.lemmas.Result.{err_from_is_err_and}
use Rattle.source.specs.declared.token.Sign.TheVariants.{Semicolon}
use Rattle.source.specs.Tokens.{seen}
use Rattle.syntax.specs.Views.{ident}
use Rattle.parser.specs.Working.Reading.{name_at}
use Rattle.parser.specs.Working.Declarations.{final_at}
use Rattle.parser.specs.Theory.Readers.{fails_on}
use Rattle.parser.specs.Theory.Ended.{ended, unended}
use Rattle.parser.proofs.Done.{final_done}
use Rattle.parser.proofs.member.final_member.Goals as goal

pub returns : goal.returns
returns c =
    let x3 = ended Semicolon name_at (seen c.in_ok-target.rest.now) c.take_name-2.result ident (λ r. seen r.now) c.in_ok-name.name _ c.take_name-2.ensures c.in_ok-name.ensures in
    final_done (seen c.args.tokens.now) c.in_ok-rest.ensures c.in_ok-rest-2.ensures c.in_ok-target.ensures x3.read x3.sign

pub returns-in_err-rest : goal.returns-in_err-rest
unfolding final_at
returns-in_err-rest c =
    let p = err_from_is_err_and c.from_residual.result c.from_residual.ensures.1 in
    rw (p.1, p.2) (fails_on c.in_err-rest.field-0.0 _ _ c.in_err-rest.ensures)

pub returns-in_err-rest-2 : goal.returns-in_err-rest-2
unfolding final_at
returns-in_err-rest-2 c =
    let p = err_from_is_err_and c.from_residual-in_err-rest-2.result c.from_residual-in_err-rest-2.ensures.1 in
    rw (p.1, p.2, c.in_ok-rest.ensures) (fails_on c.in_err-rest-2.field-0.0 _ _ c.in_err-rest-2.ensures)

pub returns-in_err-target : goal.returns-in_err-target
unfolding final_at
returns-in_err-target c =
    let p = err_from_is_err_and c.from_residual-in_err-target.result c.from_residual-in_err-target.ensures.1 in
    rw (p.1, p.2, c.in_ok-rest.ensures, c.in_ok-rest-2.ensures) (fails_on c.in_err-target.field-0.0 _ _ c.in_err-target.ensures)

pub returns-in_err-name : goal.returns-in_err-name
unfolding final_at
returns-in_err-name c =
    let p = err_from_is_err_and c.from_residual-in_err-name.result c.from_residual-in_err-name.ensures.1 in
    rw (p.1, p.2, c.in_ok-rest.ensures, c.in_ok-rest-2.ensures, c.in_ok-target.ensures) (unended Semicolon name_at (seen c.in_ok-target.rest.now) c.take_name-2.result ident (λ r. seen r.now) c.in_err-name.field-0.0 _ c.take_name-2.ensures c.in_err-name.ensures)
