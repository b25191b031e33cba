use Rattle.source.specs.Tokens.{seen}
use Rattle.std.proofs.lemmas.Result.{err_from_is_err_and}
use Rattle.parser.proofs.Closed.{condition_is, condition_unopened}
use Rattle.parser.proofs.expr.condition.Goals as goal

pub returns : goal.returns
returns c = rw (condition_is c.args.room (seen c.args.tokens.now) _ _ c.in_ok-rest.ensures.gives c.in_ok-rest.ensures.room) c.closed.ensures

pub returns-in_err-rest : goal.returns-in_err-rest
returns-in_err-rest c =
    let p = err_from_is_err_and c.from_residual.result c.from_residual.ensures.1 in
    rw (p.1, p.2) (condition_unopened c.args.room (seen c.args.tokens.now) c.in_err-rest.field-0.0 c.in_err-rest.ensures.gives)
