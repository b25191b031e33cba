use Rattle.std.proofs.Common.{refl}
use Rattle.std.proofs.lemmas.Result.{err_from_is_err_and}
use Rattle.source.specs.declared.token.Sign.TheVariants.{Semicolon}
use Rattle.source.specs.Tokens.{seen}
use Rattle.syntax.specs.Views.{helper_call_of}
use Rattle.parser.specs.Working.Statements.{helper_call_at}
use Rattle.parser.specs.Theory.Readers.{fails_on}
use Rattle.parser.specs.Theory.Ended.{ended, unended}
use Rattle.parser.proofs.local.called.Goals as goal

pub returns-in_err-rest : goal.returns-in_err-rest
returns-in_err-rest c =
    let p = err_from_is_err_and c.from_residual.result c.from_residual.ensures.1 in
    rw (p.1, p.2) (fails_on c.in_err-rest.field-0.0 _ _ c.in_err-rest.ensures)

pub returns-in_err-call : goal.returns-in_err-call
returns-in_err-call c =
    let p = err_from_is_err_and c.from_residual-in_err-call.result c.from_residual-in_err-call.ensures.1 in
    rw (p.1, p.2, c.in_ok-rest.ensures) (unended Semicolon (helper_call_at c.args.room) (seen c.in_ok-rest.rest.now) c.helper_call.result helper_call_of (λ r. seen r.now) c.in_err-call.field-0.0 _ c.helper_call.ensures c.in_err-call.ensures)

pub returns : goal.returns
returns c =
    let x0 = ended Semicolon (helper_call_at c.args.room) (seen c.in_ok-rest.rest.now) c.helper_call.result helper_call_of (λ r. seen r.now) c.in_ok-call.call _ c.helper_call.ensures c.in_ok-call.ensures in
    rw (c.in_ok-new.ensures.ok, c.in_ok-rest.ensures, x0.read, x0.sign) refl
