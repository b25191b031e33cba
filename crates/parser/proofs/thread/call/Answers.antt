use Rattle.std.proofs.Common.{map, ◌-◌}
use Rattle.std.proofs.lemmas.Result.{err_from_is_err_and}
use Rattle.source.specs.declared.token.Sign.TheVariants.{CloseParen}
use Rattle.source.specs.Tokens.{seen}
use Rattle.syntax.specs.Views.{const_of}
use Rattle.parser.specs.Working.Parts.{const_at}
use Rattle.parser.specs.Working.Reading.{listed_at}
use Rattle.parser.specs.Working.Declarations.{call_at}
use Rattle.parser.specs.Theory.Readers.{fails_on}
use Rattle.parser.proofs.Done.{consts_in_some, call_done}
use Rattle.parser.specs.Theory.Ended.{ended, unended}
use Rattle.parser.proofs.thread.call.Goals as goal

pub returns : goal.returns
returns c =
    let x2 = ended CloseParen (listed_at (const_at (c.args.room - 1))) (seen c.in_ok-rest.rest.now) c.constants.result (λ xs. map const_of xs.items) (λ r. seen r.now) c.in_ok-arguments.arguments _ c.constants.ensures c.in_ok-arguments.ensures in
    call_done (seen c.args.tokens.now) c.in_ok-section.ensures c.args.room c.in_ok-rest.ensures.gives c.in_ok-rest.ensures.room x2.read x2.sign c.in_ok-rest-2.ensures

pub returns-in_err-section : goal.returns-in_err-section
unfolding call_at
returns-in_err-section c =
    let p = err_from_is_err_and c.from_residual.result c.from_residual.ensures.1 in
    rw (p.1, p.2) (fails_on c.in_err-section.field-0.0 _ _ c.in_err-section.ensures)

pub returns-in_err-rest : goal.returns-in_err-rest
unfolding call_at
returns-in_err-rest c =
    let p = err_from_is_err_and c.from_residual-in_err-rest.result c.from_residual-in_err-rest.ensures.1 in
    rw (p.1, p.2, c.in_ok-section.ensures) (fails_on c.in_err-rest.field-0.0 _ _ c.in_err-rest.ensures.gives)

pub returns-in_err-arguments : goal.returns-in_err-arguments
unfolding call_at
returns-in_err-arguments c =
    let p = err_from_is_err_and c.from_residual-in_err-arguments.result c.from_residual-in_err-arguments.ensures.1 in
    rw (p.1, p.2, c.in_ok-section.ensures, c.in_ok-rest.ensures.gives, consts_in_some c.args.room c.in_ok-rest.ensures.room) (unended CloseParen (listed_at (const_at (c.args.room - 1))) (seen c.in_ok-rest.rest.now) c.constants.result (λ xs. map const_of xs.items) (λ r. seen r.now) c.in_err-arguments.field-0.0 _ c.constants.ensures c.in_err-arguments.ensures)

pub returns-in_err-rest-2 : goal.returns-in_err-rest-2
unfolding call_at
returns-in_err-rest-2 c =
    let x2 = ended CloseParen (listed_at (const_at (c.args.room - 1))) (seen c.in_ok-rest.rest.now) c.constants.result (λ xs. map const_of xs.items) (λ r. seen r.now) c.in_ok-arguments.arguments _ c.constants.ensures c.in_ok-arguments.ensures in
    let p = err_from_is_err_and c.from_residual-in_err-rest-2.result c.from_residual-in_err-rest-2.ensures.1 in
    rw (p.1, p.2, c.in_ok-section.ensures, c.in_ok-rest.ensures.gives, consts_in_some c.args.room c.in_ok-rest.ensures.room, x2.read, x2.sign) (fails_on c.in_err-rest-2.field-0.0 _ _ c.in_err-rest-2.ensures)
