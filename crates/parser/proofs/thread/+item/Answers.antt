use Rattle.std.proofs.Common.{◌-◌, sym, ◌∙◌, refl}
use Rattle.parser.specs.Working.Reading.{choose}
use Rattle.source.specs.declared.token.Sign.TheVariants.{CloseBrace}
use Rattle.parser.specs.Theory.Readers.{fails_on}
use Rattle.parser.specs.Theory.Ended.{ended, unended}
use Rattle.parser.proofs.Done.{repeat_done, items_in_some}
use Rattle.syntax.specs.Theory.Rows.{item_of_Repeat}
use Rattle.std.proofs.lemmas.Result.{err_from_is_err_and}
use Rattle.source.specs.Tokens.{seen}
use Rattle.syntax.specs.Views.{item_of, items_of}
use Rattle.parser.specs.Working.Declarations.{item_at, item_with, items_with, repeat_with}
use Rattle.parser.specs.Theory.Loops.{fewer}
use Rattle.parser.proofs.Turns.{item_shortens, items_go_on, items_end, items_stop}
use Rattle.parser.proofs.thread.+item.Goals as goal

pub items-returns-in_err-next : goal.items-returns-in_err-next
items-returns-in_err-next t c =
    let p = err_from_is_err_and c.from_residual.result c.from_residual.ensures.1 in
    rw (p.1, p.2) (items_stop c.args.room c.items.items.items (seen c.items.rest.now) _ c.in_err-next.field-0.0 (sym c.is_sign_next.ensures ∙ c.items-test.true) c.in_err-next.ensures c.items.invariant)

pub items-items-smaller : goal.items-items-smaller
items-items-smaller t c = fewer (item_at c.args.room) (item_shortens c.args.room) c.items.rest.now c.in_ok-next.after.now (item_of c.in_ok-next.next) c.in_ok-next.ensures

pub items-items-preserved : goal.items-items-preserved
items-items-preserved t c =
    rw c.in_ok-push.ensures.items (items_go_on c.args.room c.items.items.items (seen c.items.rest.now) _ c.in_ok-next.next (seen c.in_ok-next.after.now) (sym c.is_sign_next.ensures ∙ c.items-test.true) c.in_ok-next.ensures c.items.invariant)

pub items-returns : goal.items-returns
items-returns t c = items_end c.args.room c.items.items.items (seen c.items.rest.now) _ (sym c.is_sign_next.ensures ∙ c.items-test.false) c.items.invariant

pub repeat-returns : goal.repeat-returns
repeat-returns t c =
    let x = ended CloseBrace (items_with (item_at (c.args.room - 1))) (seen c.in_ok-rest-2.rest.now) c.items.result (λ xs. items_of xs.items) (λ r. seen r.now) c.in_ok-items.items _ c.items.ensures c.in_ok-items.ensures in
    rw (item_of_Repeat c.in_ok-count.count c.in_ok-items.items) (repeat_done c.args.room (seen c.args.tokens.now) _ _ _ _ _ _ _ _ _ _ c.in_ok-rest.ensures c.in_ok-count.ensures c.in_ok-rest-2.ensures.gives c.in_ok-rest-2.ensures.room x.read x.sign)

pub repeat-returns-in_err-rest : goal.repeat-returns-in_err-rest
unfolding repeat_with
repeat-returns-in_err-rest t c =
    let p = err_from_is_err_and c.from_residual.result c.from_residual.ensures.1 in
    rw (p.1, p.2) (fails_on c.in_err-rest.field-0.0 _ _ c.in_err-rest.ensures)

pub repeat-returns-in_err-count : goal.repeat-returns-in_err-count
unfolding repeat_with
repeat-returns-in_err-count t c =
    let p = err_from_is_err_and c.from_residual-in_err-count.result c.from_residual-in_err-count.ensures.1 in
    rw (p.1, p.2, c.in_ok-rest.ensures) (fails_on c.in_err-count.field-0.0 _ _ c.in_err-count.ensures)

pub repeat-returns-in_err-rest-2 : goal.repeat-returns-in_err-rest-2
unfolding repeat_with
repeat-returns-in_err-rest-2 t c =
    let p = err_from_is_err_and c.from_residual-in_err-rest-2.result c.from_residual-in_err-rest-2.ensures.1 in
    rw (p.1, p.2, c.in_ok-rest.ensures, c.in_ok-count.ensures) (fails_on c.in_err-rest-2.field-0.0 _ _ c.in_err-rest-2.ensures.gives)

pub repeat-returns-in_err-items : goal.repeat-returns-in_err-items
unfolding repeat_with
repeat-returns-in_err-items t c =
    let p = err_from_is_err_and c.from_residual-in_err-items.result c.from_residual-in_err-items.ensures.1 in
    rw (p.1, p.2, c.in_ok-rest.ensures, c.in_ok-count.ensures, c.in_ok-rest-2.ensures.gives, items_in_some c.args.room c.in_ok-rest-2.ensures.room) (unended CloseBrace (items_with (item_at (c.args.room - 1))) (seen c.in_ok-rest-2.rest.now) c.items.result (λ xs. items_of xs.items) (λ r. seen r.now) c.in_err-items.field-0.0 _ c.items.ensures c.in_err-items.ensures)

pub item-returns : goal.item-returns
unfolding item_with choose
item-returns t c = rw (sym c.is_word_next.ensures ∙ c.if-is_word_next.false, c.in_ok-call.ensures) refl
