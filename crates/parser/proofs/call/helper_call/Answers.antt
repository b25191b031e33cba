use Rattle.std.proofs.Common.{◌-◌, map, refl}
use Rattle.std.proofs.lemmas.Result.{err_from_is_err_and}
use Rattle.source.specs.declared.token.Sign.TheVariants.{CloseParen}
use Rattle.source.specs.Tokens.{seen}
use Rattle.syntax.specs.Views.{expr_of}
use Rattle.parser.specs.Working.Reading.{listed_at}
use Rattle.parser.specs.Working.Expressions.{expr_at}
use Rattle.parser.specs.Working.Statements.{helper_call_at}
use Rattle.parser.specs.Theory.Readers.{fails_on}
use Rattle.parser.specs.Theory.Ended.{ended, unended}
use Rattle.parser.proofs.Rooms.{inside_at_some}
use Rattle.parser.proofs.call.helper_call.Goals as goal

pub returns-in_err-helper : goal.returns-in_err-helper
unfolding helper_call_at
returns-in_err-helper c =
    let p = err_from_is_err_and c.from_residual.result c.from_residual.ensures.1 in
    rw (p.1, p.2) (fails_on c.in_err-helper.field-0.0 _ _ c.in_err-helper.ensures)

pub returns-in_err-rest : goal.returns-in_err-rest
unfolding helper_call_at
returns-in_err-rest c =
    let p = err_from_is_err_and c.from_residual-in_err-rest.result c.from_residual-in_err-rest.ensures.1 in
    rw (p.1, p.2, c.in_ok-helper.ensures) (fails_on c.in_err-rest.field-0.0 _ _ c.in_err-rest.ensures.gives)

pub returns-in_err-arguments : goal.returns-in_err-arguments
unfolding helper_call_at
returns-in_err-arguments c =
    let p = err_from_is_err_and c.from_residual-in_err-arguments.result c.from_residual-in_err-arguments.ensures.1 in
    rw (p.1, p.2, c.in_ok-helper.ensures, c.in_ok-rest.ensures.gives, inside_at_some c.args.room c.in_ok-rest.ensures.room) (unended CloseParen (listed_at (expr_at (c.args.room - 1))) (seen c.in_ok-rest.rest.now) c.arguments.result (λ xs. map expr_of xs.items) (λ r. seen r.now) c.in_err-arguments.field-0.0 _ c.arguments.ensures c.in_err-arguments.ensures)

pub returns : goal.returns
unfolding helper_call_at
returns c =
    let x0 = ended CloseParen (listed_at (expr_at (c.args.room - 1))) (seen c.in_ok-rest.rest.now) c.arguments.result (λ xs. map expr_of xs.items) (λ r. seen r.now) c.in_ok-arguments.arguments _ c.arguments.ensures c.in_ok-arguments.ensures in
    rw (c.in_ok-helper.ensures, c.in_ok-rest.ensures.gives, inside_at_some c.args.room c.in_ok-rest.ensures.room, x0.read, x0.sign) refl
