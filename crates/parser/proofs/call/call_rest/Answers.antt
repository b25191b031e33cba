use Rattle.std.proofs.Common.{refl}
use Rattle.std.proofs.lemmas.Result.{err_from_is_err_and}
use Rattle.source.specs.declared.token.Sign.TheVariants.{Semicolon}
use Rattle.source.specs.Tokens.{seen}
use Rattle.syntax.specs.Views.{helper_call_of}
use Rattle.parser.specs.Working.Statements.{helper_call_at, call_stmt_at}
use Rattle.parser.specs.Theory.Ended.{ended, unended}
use Rattle.parser.proofs.call.call_rest.Goals as goal

pub returns-in_err-call : goal.returns-in_err-call
unfolding call_stmt_at
returns-in_err-call c =
    let p = err_from_is_err_and c.from_residual.result c.from_residual.ensures.1 in
    rw (p.1, p.2) (unended Semicolon (helper_call_at c.args.room) (seen c.args.tokens.now) c.helper_call.result helper_call_of (λ r. seen r.now) c.in_err-call.field-0.0 _ c.helper_call.ensures c.in_err-call.ensures)

pub returns : goal.returns
unfolding call_stmt_at
returns c =
    let x0 = ended Semicolon (helper_call_at c.args.room) (seen c.args.tokens.now) c.helper_call.result helper_call_of (λ r. seen r.now) c.in_ok-call.call _ c.helper_call.ensures c.in_ok-call.ensures in
    rw (c.in_ok-new.ensures.ok, x0.read, x0.sign) refl
