use Rattle.std.proofs.Common.{refl}
use Rattle.std.proofs.lemmas.Result.{err_from_is_err_and}
use Rattle.parser.specs.Working.Statements.{var_at}
use Rattle.parser.specs.Theory.Readers.{fails_on}
use Rattle.parser.proofs.local.var_rest.Goals as goal

pub returns-in_err-typed : goal.returns-in_err-typed
unfolding var_at
returns-in_err-typed c =
    let p = err_from_is_err_and c.from_residual.result c.from_residual.ensures.1 in
    rw (p.1, p.2) (fails_on c.in_err-typed.field-0.0 _ _ c.in_err-typed.ensures)

pub returns-in_err-value : goal.returns-in_err-value
unfolding var_at
returns-in_err-value c =
    let p = err_from_is_err_and c.from_residual-in_err-value.result c.from_residual-in_err-value.ensures.1 in
    rw (p.1, p.2, c.in_ok-typed.ensures) (fails_on c.in_err-value.field-0.0 _ _ c.in_err-value.ensures)

pub returns : goal.returns
unfolding var_at
returns c = rw (c.in_ok-new.ensures.ok, c.with_value.ensures, c.in_ok-typed.ensures, c.in_ok-value.ensures) refl
