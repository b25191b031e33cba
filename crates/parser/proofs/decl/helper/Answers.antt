use Rattle.source.specs.Tokens.{seen}
use Rattle.std.proofs.lemmas.Result.{err_from_is_err_and}
use Rattle.parser.specs.Working.Declarations.{helper_at}
use Rattle.parser.specs.Theory.Readers.{fails_on}
use Rattle.parser.proofs.Done.{helper_done}
use Rattle.parser.proofs.decl.helper.Goals as goal

pub returns : goal.returns
returns c =
    rw c.new.ensures.items (helper_done (seen c.args.tokens.now) c.in_ok-name.ensures c.args.room c.in_ok-params.ensures c.in_ok-result.ensures c.in_ok-body.ensures)

pub returns-in_err-name : goal.returns-in_err-name
unfolding helper_at
returns-in_err-name c =
    let p = err_from_is_err_and c.from_residual.result c.from_residual.ensures.1 in
    rw (p.1, p.2) (fails_on c.in_err-name.field-0.0 _ _ c.in_err-name.ensures)

pub returns-in_err-params : goal.returns-in_err-params
unfolding helper_at
returns-in_err-params c =
    let p = err_from_is_err_and c.from_residual-in_err-params.result c.from_residual-in_err-params.ensures.1 in
    rw (p.1, p.2, c.in_ok-name.ensures) (fails_on c.in_err-params.field-0.0 _ _ c.in_err-params.ensures)

pub returns-in_err-result : goal.returns-in_err-result
unfolding helper_at
returns-in_err-result c =
    let p = err_from_is_err_and c.from_residual-in_err-result.result c.from_residual-in_err-result.ensures.1 in
    rw (p.1, p.2, c.in_ok-name.ensures, c.in_ok-params.ensures) (fails_on c.in_err-result.field-0.0 _ _ c.in_err-result.ensures)

pub returns-in_err-body : goal.returns-in_err-body
unfolding helper_at
returns-in_err-body c =
    let p = err_from_is_err_and c.from_residual-in_err-body.result c.from_residual-in_err-body.ensures.1 in
    rw (p.1, p.2, c.in_ok-name.ensures, c.in_ok-params.ensures, c.in_ok-result.ensures) (fails_on c.in_err-body.field-0.0 _ _ c.in_err-body.ensures)
