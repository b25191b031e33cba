use Rattle.std.proofs.Common.{refl, ◌-◌}
use Rattle.std.proofs.lemmas.Result.{err_from_is_err_and}
use Rattle.source.specs.declared.token.Sign.TheVariants.{CloseBrace}
use Rattle.source.specs.Tokens.{seen}
use Rattle.syntax.specs.Views.{items_of}
use Rattle.parser.specs.Working.Declarations.{item_at, items_with, thread_at}
use Rattle.parser.specs.Theory.Readers.{fails_on}
use Rattle.parser.proofs.Done.{items_in_some}
use Rattle.parser.specs.Theory.Ended.{ended, unended}
use Rattle.parser.proofs.thread.thread.Goals as goal

pub returns : goal.returns
unfolding thread_at
returns c =
    let x2 = ended CloseBrace (items_with (item_at (c.args.room - 1))) (seen c.in_ok-rest.rest.now) c.items.result (λ xs. items_of xs.items) (λ r. seen r.now) c.in_ok-items.items _ c.items.ensures c.in_ok-items.ensures in
    rw (c.in_ok-name.ensures, c.in_ok-rest.ensures.gives, items_in_some c.args.room c.in_ok-rest.ensures.room, x2.read, x2.sign) refl

pub returns-in_err-name : goal.returns-in_err-name
unfolding thread_at
returns-in_err-name c =
    let p = err_from_is_err_and c.from_residual.result c.from_residual.ensures.1 in
    rw (p.1, p.2) (fails_on c.in_err-name.field-0.0 _ _ c.in_err-name.ensures)

pub returns-in_err-rest : goal.returns-in_err-rest
unfolding thread_at
returns-in_err-rest c =
    let p = err_from_is_err_and c.from_residual-in_err-rest.result c.from_residual-in_err-rest.ensures.1 in
    rw (p.1, p.2, c.in_ok-name.ensures) (fails_on c.in_err-rest.field-0.0 _ _ c.in_err-rest.ensures.gives)

pub returns-in_err-items : goal.returns-in_err-items
unfolding thread_at
returns-in_err-items c =
    let p = err_from_is_err_and c.from_residual-in_err-items.result c.from_residual-in_err-items.ensures.1 in
    rw (p.1, p.2, c.in_ok-name.ensures, c.in_ok-rest.ensures.gives, items_in_some c.args.room c.in_ok-rest.ensures.room) (unended CloseBrace (items_with (item_at (c.args.room - 1))) (seen c.in_ok-rest.rest.now) c.items.result (λ xs. items_of xs.items) (λ r. seen r.now) c.in_err-items.field-0.0 _ c.items.ensures c.in_err-items.ensures)
