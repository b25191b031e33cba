use Rattle.parser.specs.declared.stop.Stop.{Stop}
use Rattle.std.proofs.Common.{refl, ap, sym, ◌∙◌, List, Result, Ok}
use Rattle.parser.proofs.StatementsDone.{while_done, if_done, stmts_in_some}
use Rattle.std.proofs.lemmas.Result.{err_from_is_err_and}
use Rattle.syntax.specs.Theory.Rows.{stmt_of-made_While, stmt_of-made_If}
use Rattle.source.specs.Tokens.{seen, Tok}
use Rattle.syntax.specs.Views.{stmt_of}
use Rattle.parser.specs.Working.Statements.{stmt_at, braced_with, while_with, if_with, stmt_with, assign_at}
use Rattle.parser.specs.Working.Reading.{choose, ◌>>=◌}
use Rattle.parser.specs.Theory.Readers.{fails_on}
use Rattle.parser.specs.Theory.Loops.{fewer}
use Rattle.parser.specs.Theory.StatementTurns.{stmt_shortens, stmts_go_on, stmts_end, stmts_stop}
use Rattle.source.specs.declared.token.Keyword.TheVariants.{Let, Var, If, While, Print, Return, Call}
use Rattle.source.specs.declared.token.Token.TheVariants as token
use Rattle.std.specs.Rc.{rc_str_bytes}
use Rattle.syntax.specs.Trees.{Ident, Expr, print, return_value}
use Rattle.parser.specs.Theory.First.{word_first, at_first, named_is, behind_first}
use Rattle.parser.proofs.stmt.+stmt.Goals as goal

pub stmts-returns-in_err-next : goal.stmts-returns-in_err-next
stmts-returns-in_err-next t c =
    let p = err_from_is_err_and c.from_residual.result c.from_residual.ensures.1 in
    rw (p.1, p.2) (stmts_stop c.args.room c.items.stmts.items (seen c.items.rest.now) _ c.in_err-next.field-0.0 (sym c.is_sign_next.ensures ∙ c.items-test.true) c.in_err-next.ensures c.items.invariant)

pub stmts-items-smaller : goal.stmts-items-smaller
stmts-items-smaller t c = fewer (stmt_at c.args.room) (stmt_shortens c.args.room) c.items.rest.now c.in_ok-next.after.now (stmt_of c.in_ok-next.next) c.in_ok-next.ensures

pub stmts-items-preserved : goal.stmts-items-preserved
stmts-items-preserved t c =
    rw c.in_ok-push.ensures.items (stmts_go_on c.args.room c.items.stmts.items (seen c.items.rest.now) _ c.in_ok-next.next (seen c.in_ok-next.after.now) (sym c.is_sign_next.ensures ∙ c.items-test.true) c.in_ok-next.ensures c.items.invariant)

pub stmts-returns : goal.stmts-returns
stmts-returns t c = stmts_end c.args.room c.items.stmts.items (seen c.items.rest.now) _ (sym c.is_sign_next.ensures ∙ c.items-test.false) c.items.invariant

pub while_rest-returns : goal.while_rest-returns
while_rest-returns t c =
    rw (stmt_of-made_While c.in_ok-new.field-0 c.args.start c.in_ok-condition.condition c.in_ok-block.block c.in_ok-new.ensures.ok)
    (while_done c.args.room c.args.start (seen c.args.tokens.now) _ _ _ _ c.in_ok-condition.ensures c.in_ok-block.ensures)

pub if_rest-returns : goal.if_rest-returns
if_rest-returns t c =
    rw (stmt_of-made_If c.in_ok-new.field-0 c.args.start c.in_ok-condition.condition c.in_ok-block.block c.in_ok-otherwise.otherwise c.in_ok-new.ensures.ok)
    (if_done c.args.room c.args.start (seen c.args.tokens.now) _ _ _ _ _ _ c.in_ok-condition.ensures c.in_ok-block.ensures c.in_ok-otherwise.ensures)

pub block-returns : goal.block-returns
unfolding braced_with
block-returns t c = rw (c.in_ok-rest.ensures.gives, stmts_in_some c.args.room c.in_ok-rest.ensures.room, c.in_ok-stmts.ensures, c.in_ok-close.ensures) refl

pub block-returns-in_err-rest : goal.block-returns-in_err-rest
unfolding braced_with
block-returns-in_err-rest t c =
    let p = err_from_is_err_and c.from_residual.result c.from_residual.ensures.1 in
    rw (p.1, p.2) (fails_on c.in_err-rest.field-0.0 _ _ c.in_err-rest.ensures.gives)

pub block-returns-in_err-stmts : goal.block-returns-in_err-stmts
unfolding braced_with
block-returns-in_err-stmts t c =
    let p = err_from_is_err_and c.from_residual-in_err-stmts.result c.from_residual-in_err-stmts.ensures.1 in
    rw (p.1, p.2, c.in_ok-rest.ensures.gives, stmts_in_some c.args.room c.in_ok-rest.ensures.room) (fails_on c.in_err-stmts.field-0.0 _ _ c.in_err-stmts.ensures)

pub block-returns-in_err-close : goal.block-returns-in_err-close
unfolding braced_with
block-returns-in_err-close t c =
    let p = err_from_is_err_and c.from_residual-in_err-close.result c.from_residual-in_err-close.ensures.1 in
    rw (p.1, p.2, c.in_ok-rest.ensures.gives, stmts_in_some c.args.room c.in_ok-rest.ensures.room, c.in_ok-stmts.ensures) (fails_on c.in_err-close.field-0.0 _ _ c.in_err-close.ensures)

pub while_rest-returns-in_err-condition : goal.while_rest-returns-in_err-condition
unfolding while_with
while_rest-returns-in_err-condition t c =
    let p = err_from_is_err_and c.from_residual.result c.from_residual.ensures.1 in
    rw (p.1, p.2) (fails_on c.in_err-condition.field-0.0 _ _ c.in_err-condition.ensures)

pub while_rest-returns-in_err-block : goal.while_rest-returns-in_err-block
unfolding while_with
while_rest-returns-in_err-block t c =
    let p = err_from_is_err_and c.from_residual-in_err-block.result c.from_residual-in_err-block.ensures.1 in
    rw (p.1, p.2, c.in_ok-condition.ensures) (fails_on c.in_err-block.field-0.0 _ _ c.in_err-block.ensures)

pub if_rest-returns-in_err-condition : goal.if_rest-returns-in_err-condition
unfolding if_with
if_rest-returns-in_err-condition t c =
    let p = err_from_is_err_and c.from_residual.result c.from_residual.ensures.1 in
    rw (p.1, p.2) (fails_on c.in_err-condition.field-0.0 _ _ c.in_err-condition.ensures)

pub if_rest-returns-in_err-block : goal.if_rest-returns-in_err-block
unfolding if_with
if_rest-returns-in_err-block t c =
    let p = err_from_is_err_and c.from_residual-in_err-block.result c.from_residual-in_err-block.ensures.1 in
    rw (p.1, p.2, c.in_ok-condition.ensures) (fails_on c.in_err-block.field-0.0 _ _ c.in_err-block.ensures)

pub if_rest-returns-in_err-otherwise : goal.if_rest-returns-in_err-otherwise
unfolding if_with
if_rest-returns-in_err-otherwise t c =
    let p = err_from_is_err_and c.from_residual-in_err-otherwise.result c.from_residual-in_err-otherwise.ensures.1 in
    rw (p.1, p.2, c.in_ok-condition.ensures, c.in_ok-block.ensures) (fails_on c.in_err-otherwise.field-0.0 _ _ c.in_err-otherwise.ensures)

pub otherwise-returns-in_err-rest : goal.otherwise-returns-in_err-rest
unfolding choose
otherwise-returns-in_err-rest t c =
    let p = err_from_is_err_and c.from_residual.result c.from_residual.ensures.1 in
    rw (p.1, p.2, sym c.is_word_next.ensures ∙ c.if-not-is_word_next.false) (fails_on c.in_err-rest.field-0.0 _ _ c.in_err-rest.ensures)

pub otherwise-returns-in_err-body : goal.otherwise-returns-in_err-body
unfolding choose
otherwise-returns-in_err-body t c =
    let p = err_from_is_err_and c.from_residual-in_err-body.result c.from_residual-in_err-body.ensures.1 in
    rw (p.1, p.2, sym c.is_word_next.ensures ∙ c.if-not-is_word_next.false, c.in_ok-rest.ensures) (fails_on c.in_err-body.field-0.0 _ _ c.in_err-body.ensures)

pub stmt-returns-in_ok-value-in-Word-default-Print : goal.stmt-returns-in_ok-value-in-Word-default-Print
unfolding stmt_with
stmt-returns-in_ok-value-in-Word-default-Print t c =
    word_first c.args.tokens.now c.first-item.result c.in-len1-up.len_at_least c.first-item.is c.in-Word-default-Print.span c.in-Word-default-Print.field-1 Print c.in-Word-default-Print.is (rw c.in-Word-default-Print.is at c.in-Word-default-Print.field-1-is) (stmt_at c.args.room)
    ∙ ap (λ (r : Result (Expr × List Tok) Stop). r >>= λ l. Ok (print c.in-Word-default-Print.span l.0, l.1)) c.in_ok-value-in-Word-default-Print.ensures

pub stmt-returns-in_err-value-in-Word-default-Print : goal.stmt-returns-in_err-value-in-Word-default-Print
unfolding stmt_with
stmt-returns-in_err-value-in-Word-default-Print t c =
    let p = err_from_is_err_and c.from_residual-in_err-value-in-Word-default-Print.result c.from_residual-in_err-value-in-Word-default-Print.ensures.1 in
    rw (p.1, p.2, word_first c.args.tokens.now c.first-item.result c.in-len1-up.len_at_least c.first-item.is c.in-Word-default-Print.span c.in-Word-default-Print.field-1 Print c.in-Word-default-Print.is (rw c.in-Word-default-Print.is at c.in-Word-default-Print.field-1-is) (stmt_at c.args.room)) (fails_on c.in_err-value-in-Word-default-Print.field-0.0 _ _ c.in_err-value-in-Word-default-Print.ensures)

pub stmt-returns-in_ok-value-in-Word-default-Return : goal.stmt-returns-in_ok-value-in-Word-default-Return
unfolding stmt_with
stmt-returns-in_ok-value-in-Word-default-Return t c =
    word_first c.args.tokens.now c.first-item.result c.in-len1-up.len_at_least c.first-item.is c.in-Word-default-Return.span c.in-Word-default-Return.field-1 Return c.in-Word-default-Return.is (rw c.in-Word-default-Return.is at c.in-Word-default-Return.field-1-is) (stmt_at c.args.room)
    ∙ ap (λ (r : Result (Expr × List Tok) Stop). r >>= λ l. Ok (return_value c.in-Word-default-Return.span l.0, l.1)) c.in_ok-value-in-Word-default-Return.ensures

pub stmt-returns-in_err-value-in-Word-default-Return : goal.stmt-returns-in_err-value-in-Word-default-Return
unfolding stmt_with
stmt-returns-in_err-value-in-Word-default-Return t c =
    let p = err_from_is_err_and c.from_residual-in_err-value-in-Word-default-Return.result c.from_residual-in_err-value-in-Word-default-Return.ensures.1 in
    rw (p.1, p.2, word_first c.args.tokens.now c.first-item.result c.in-len1-up.len_at_least c.first-item.is c.in-Word-default-Return.span c.in-Word-default-Return.field-1 Return c.in-Word-default-Return.is (rw c.in-Word-default-Return.is at c.in-Word-default-Return.field-1-is) (stmt_at c.args.room)) (fails_on c.in_err-value-in-Word-default-Return.field-0.0 _ _ c.in_err-value-in-Word-default-Return.ensures)

pub stmt-returns-in-Word-default-Let : goal.stmt-returns-in-Word-default-Let
unfolding stmt_with
stmt-returns-in-Word-default-Let t c = rw (word_first c.args.tokens.now c.first-item.result c.in-len1-up.len_at_least c.first-item.is c.in-Word-default-Let.span c.in-Word-default-Let.field-1 Let c.in-Word-default-Let.is (rw c.in-Word-default-Let.is at c.in-Word-default-Let.field-1-is) (stmt_at c.args.room)) c.let_rest.ensures

pub stmt-returns-in-Word-default-Var : goal.stmt-returns-in-Word-default-Var
unfolding stmt_with
stmt-returns-in-Word-default-Var t c = rw (word_first c.args.tokens.now c.first-item.result c.in-len1-up.len_at_least c.first-item.is c.in-Word-default-Var.span c.in-Word-default-Var.field-1 Var c.in-Word-default-Var.is (rw c.in-Word-default-Var.is at c.in-Word-default-Var.field-1-is) (stmt_at c.args.room)) c.var_rest.ensures

pub stmt-returns-in-Word-default-If : goal.stmt-returns-in-Word-default-If
unfolding stmt_with
stmt-returns-in-Word-default-If t c = rw (word_first c.args.tokens.now c.first-item.result c.in-len1-up.len_at_least c.first-item.is c.in-Word-default-If.span c.in-Word-default-If.field-1 If c.in-Word-default-If.is (rw c.in-Word-default-If.is at c.in-Word-default-If.field-1-is) (stmt_at c.args.room)) c.if_rest.ensures

pub stmt-returns-in-Word-default-While : goal.stmt-returns-in-Word-default-While
unfolding stmt_with
stmt-returns-in-Word-default-While t c = rw (word_first c.args.tokens.now c.first-item.result c.in-len1-up.len_at_least c.first-item.is c.in-Word-default-While.span c.in-Word-default-While.field-1 While c.in-Word-default-While.is (rw c.in-Word-default-While.is at c.in-Word-default-While.field-1-is) (stmt_at c.args.room)) c.while_rest.ensures

pub stmt-returns-in-Word-default-Call : goal.stmt-returns-in-Word-default-Call
unfolding stmt_with
stmt-returns-in-Word-default-Call t c = rw (word_first c.args.tokens.now c.first-item.result c.in-len1-up.len_at_least c.first-item.is c.in-Word-default-Call.span c.in-Word-default-Call.field-1 Call c.in-Word-default-Call.is (rw c.in-Word-default-Call.is at c.in-Word-default-Call.field-1-is) (stmt_at c.args.room)) c.call_rest.ensures

pub stmt-returns-in_ok-named-in-Name : goal.stmt-returns-in_ok-named-in-Name
unfolding stmt_with
stmt-returns-in_ok-named-in-Name t c =
    let n = c.in_ok-named-in-Name in
    let k = c.in-Name in
    rw (at_first c.args.tokens.now c.first-item.result (token.Name k.start k.text) c.in-len1-up.len_at_least c.first-item.is k.is (stmt_at c.args.room)
    ∙ ap (λ (x : Ident). assign_at c.args.room x (seen (behind_first c.args.tokens.now))) (sym (named_is n.field-0 (rc_str_bytes k.text) k.start n.ensures.0 n.ensures.1))) c.assignment.ensures

pub otherwise-returns : goal.otherwise-returns
unfolding choose
otherwise-returns t c = rw (sym c.is_word_next.ensures ∙ c.if-not-is_word_next.false, c.in_ok-rest.ensures, c.in_ok-body.ensures) refl

pub otherwise-returns-then-not-is_word_next : goal.otherwise-returns-then-not-is_word_next
unfolding choose
otherwise-returns-then-not-is_word_next t c = rw (sym c.is_word_next.ensures ∙ c.if-not-is_word_next.true) refl
