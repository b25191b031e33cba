use Rattle.parser.specs.declared.stop.Stop.{Stop}
use Rattle.std.proofs.Common.{◌<◌, Bool, if◌then◌else◌, refl, Ok, sym, ap, ◌∙◌, arith, List, Result}
use Rattle.std.specs.Prelude.{not}
use Rattle.std.proofs.lemmas.Result.{err_from_is_err_and}
use Rattle.source.specs.Tokens.{seen, Tok}
use Rattle.syntax.specs.declared.tree.Element as the_element
use Rattle.syntax.specs.declared.tree.Expr as the_expr
use Rattle.syntax.specs.declared.tree.Path as the_path
use Rattle.syntax.specs.Theory.Rows.{joined_of-Chain}
use Rattle.syntax.specs.Trees.{paren, Place, Ident, Expr, int, place, prefix}
use Rattle.syntax.specs.Views.{ident, expr_of, path_of, element_of}
use Rattle.parser.specs.Working.Expressions.{operand_at, inside_at, expr_at, place_at, unary_with, compared_with}
use Rattle.parser.specs.Working.Expressions.{prim_at, prim_with, prim_from, parens_at}
use Rattle.parser.specs.Theory.Chains.{links_before, link_goes_on, link_ends, link_stops, operand_alone}
use Rattle.parser.specs.Theory.Chains.{operand_stops, pair_done, chain_done, links_stop, none_found}
use Rattle.parser.specs.Theory.ShorterStatements.{operand_shortens, one_turn_less}
use Rattle.parser.proofs.Closed.{element_done, element_unopened, element_stops, parens_done, parens_stop, path_stops}
use Rattle.parser.proofs.Closed.{path_done}
use Rattle.parser.specs.Theory.Ended.{ended_gives}
use Rattle.source.specs.declared.token.Keyword.TheVariants.{Null}
use Rattle.source.specs.declared.token.Number.{Number}
use Rattle.source.specs.declared.token.Token.TheVariants as token
use Rattle.std.specs.Rc.{rc_str_bytes}
use Rattle.parser.specs.Theory.Readers.{fails_on}
use Rattle.parser.specs.Working.Reading.{◌>>=◌, refused, choose}
use Rattle.parser.specs.Theory.First.{word_first, at_first, refused_first, named_is, behind_first}
use Rattle.parser.proofs.expr.+expr.Goals as goal

pub links-returns-in_err-right : goal.links-returns-in_err-right
links-returns-in_err-right t c =
    let p = err_from_is_err_and c.from_residual-in_err-right.result c.from_residual-in_err-right.ensures.1 in
    let operand = operand_at c.args.level c.args.room in
    rw (p.1, p.2) (link_stops operand (operand_shortens c.args.level c.args.room) c.args.level c.in_err-right.field-0.0 (links_before c.loop-op.links.items) (seen c.loop-op.rest.now) (seen c.in-Some.after.now) c.in-Some.op _ (sym c.in-Some.ensures) c.in_err-right.ensures c.loop-op.invariant)

pub links-loop-op-smaller : goal.links-loop-op-smaller
links-loop-op-smaller t c = one_turn_less c.args.level c.args.room c.loop-op.rest.now c.in-Some.after.now c.in_ok-right.after.now c.in-Some.op (expr_of c.in_ok-right.right) (sym c.in-Some.ensures) c.in_ok-right.ensures

pub links-loop-op-preserved : goal.links-loop-op-preserved
links-loop-op-preserved t c =
    let operand = operand_at c.args.level c.args.room in
    rw c.in_ok-push-2.ensures.items (link_goes_on operand (operand_shortens c.args.level c.args.room) c.args.level c.loop-op.links.items (record { op = c.in-Some.op; operand = c.in_ok-right.right }) (seen c.loop-op.rest.now) (seen c.in-Some.after.now) (seen c.in_ok-right.after.now) _ (sym c.in-Some.ensures) c.in_ok-right.ensures c.loop-op.invariant)

pub links-returns : goal.links-returns
links-returns t c =
    link_ends (operand_at c.args.level c.args.room) (operand_shortens c.args.level c.args.room) c.args.level c.loop-op.links.items (seen c.loop-op.rest.now) _ (sym c.in_default.ensures) c.loop-op.invariant

pub chain-returns-in_default : goal.chain-returns-in_default
chain-returns-in_default t c =
    let k = c.args.level in
    operand_alone (operand_at k c.args.room) (operand_shortens k c.args.room) k _ _ _ c.in_ok-left.ensures (sym c.in_default.ensures)

pub chain-returns-in_err-right : goal.chain-returns-in_err-right
chain-returns-in_err-right t c =
    let p = err_from_is_err_and c.from_residual-in_err-right.result c.from_residual-in_err-right.ensures.1 in
    let k = c.args.level in
    rw (p.1, p.2) (operand_stops (operand_at k c.args.room) (operand_shortens k c.args.room) k _ _ _ c.in_ok-left.ensures _ _ (sym c.in-Some.ensures) c.in_err-right.field-0.0 c.in_err-right.ensures)

pub chain-returns-then-is_none : goal.chain-returns-then-is_none
chain-returns-then-is_none t c =
    let k = c.args.level in
    rw (pair_done (operand_at k c.args.room) (operand_shortens k c.args.room) k _ _ _ c.in_ok-left.ensures _ _ (sym c.in-Some.ensures) _ _ c.in_ok-right.ensures (sym c.operator-2.ensures ∙ none_found _ c.operator-2.result (c.is_none.ensures ∙ ap not c.if-is_none.true)))
    c.joined.ensures

pub chain-returns-in_err-links : goal.chain-returns-in_err-links
chain-returns-in_err-links t c =
    let p = err_from_is_err_and c.from_residual-in_err-links.result c.from_residual-in_err-links.ensures.1 in
    let k = c.args.level in
    rw (p.1, p.2) (links_stop (operand_at k c.args.room) (operand_shortens k c.args.room) k _ _ _ c.in_ok-left.ensures _ _ (sym c.in-Some.ensures) _ _ c.in_ok-right.ensures c.in_err-links.field-0.0 c.in_err-links.ensures)

pub chain-returns : goal.chain-returns
chain-returns t c =
    let k = c.args.level in
    rw (chain_done (operand_at k c.args.room) (operand_shortens k c.args.room) k _ _ _ c.in_ok-left.ensures _ _ (sym c.in-Some.ensures) _ _ c.in_ok-right.ensures _ _ c.in_ok-links.ensures, ← joined_of-Chain k c.in_ok-left.left c.in_ok-links.links)
    c.joined-2.ensures

pub element-returns : goal.element-returns
element-returns t c =
    let read = element_done c.args.room (ident c.args.name) (seen c.args.tokens.now) _ _ c.in_ok-rest.ensures.gives c.in_ok-rest.ensures.room _ _ c.in_ok-index.ensures in
    read ∙ ap (λ (e : the_element.Element). Ok (element_of e, seen c.in_ok-index.rest.now)) (sym c.in_ok-new.ensures.ok)

pub element-returns-in_err-rest : goal.element-returns-in_err-rest
element-returns-in_err-rest t c =
    let p = err_from_is_err_and c.from_residual.result c.from_residual.ensures.1 in
    rw (p.1, p.2) (element_unopened c.args.room (ident c.args.name) (seen c.args.tokens.now) c.in_err-rest.field-0.0 c.in_err-rest.ensures.gives)

pub element-returns-in_err-index : goal.element-returns-in_err-index
element-returns-in_err-index t c =
    let p = err_from_is_err_and c.from_residual-in_err-index.result c.from_residual-in_err-index.ensures.1 in
    rw (p.1, p.2) (element_stops c.args.room (ident c.args.name) (seen c.args.tokens.now) _ _ c.in_ok-rest.ensures.gives c.in_ok-rest.ensures.room c.in_err-index.field-0.0 c.in_err-index.ensures)

pub parens-returns : goal.parens-returns
parens-returns t c =
    let some : 0 < c.args.room = omega arith in
    let read = parens_done c.args.room c.args.at (seen c.args.tokens.now) some _ _ c.in_ok-inner.ensures in
    read ∙ ap (λ (e : the_expr.Expr). Ok (paren c.args.at (expr_of e), seen c.in_ok-inner.rest.now)) (sym c.in_ok-new.ensures.ok)

pub parens-returns-in_err-inner : goal.parens-returns-in_err-inner
parens-returns-in_err-inner t c =
    let some : 0 < c.args.room = omega arith in
    let p = err_from_is_err_and c.from_residual.result c.from_residual.ensures.1 in
    rw (p.1, p.2) (parens_stop c.args.room c.args.at (seen c.args.tokens.now) some c.in_err-inner.field-0.0 c.in_err-inner.ensures)

pub place-returns-in_err-fields : goal.place-returns-in_err-fields
place-returns-in_err-fields t c =
    let p = err_from_is_err_and c.from_residual.result c.from_residual.ensures.1 in
    rw (p.1, p.2) (path_stops c.args.room (inside_at c.args.room) (ident c.args.name) (seen c.args.tokens.now) (sym c.is_sign_next.ensures ∙ c.if-is_sign_next.false) (sym c.is_sign_next-2.ensures ∙ c.if-is_sign_next-2.true) c.in_err-fields.field-0.0 c.in_err-fields.ensures)

pub place-returns-then-is_sign_next-2 : goal.place-returns-then-is_sign_next-2
place-returns-then-is_sign_next-2 t c =
    path_done c.args.room (inside_at c.args.room) (ident c.args.name) (seen c.args.tokens.now) (sym c.is_sign_next.ensures ∙ c.if-is_sign_next.false) (sym c.is_sign_next-2.ensures ∙ c.if-is_sign_next-2.true) _ _ c.in_ok-fields.ensures
    ∙ ap (λ (p : the_path.Path). Ok (path_of p, seen c.in_ok-fields.rest.now)) (sym c.in_ok-new.ensures.ok)

pub closed-returns : goal.closed-returns
closed-returns t c = ended_gives c.args.sign (expr_at c.args.room) (seen c.args.tokens.now) c.chain.result expr_of (λ r. seen r.now) c.ended_by.result c.chain.ensures c.ended_by.ensures

pub prim-returns-in-Word-default-Null : goal.prim-returns-in-Word-default-Null
unfolding prim_with
prim-returns-in-Word-default-Null t c = word_first c.args.tokens.now c.first-item.result c.in-len1-up.len_at_least c.first-item.is c.in-Word-default-Null.span c.in-Word-default-Null.field-1 Null c.in-Word-default-Null.is (rw c.in-Word-default-Null.is at c.in-Word-default-Null.field-1-is) (prim_at c.args.room)

pub prim-returns-in-Int : goal.prim-returns-in-Int
unfolding prim_with
prim-returns-in-Int t c =
    at_first c.args.tokens.now c.first-item.result (token.Int c.in-Int.span c.in-Int.value) c.in-len1-up.len_at_least c.first-item.is c.in-Int.is (prim_at c.args.room)
    ∙ ap (λ (n : Number). Ok (int n, seen (behind_first c.args.tokens.now))) (sym c.small.ensures)

pub prim-returns-in-Large : goal.prim-returns-in-Large
unfolding prim_with
prim-returns-in-Large t c =
    at_first c.args.tokens.now c.first-item.result (token.Large c.in-Large.number) c.in-len1-up.len_at_least c.first-item.is c.in-Large.is (prim_at c.args.room)
    ∙ ap (λ (n : Number). Ok (int n, seen (behind_first c.args.tokens.now))) (sym c.deref.ensures)

pub prim-returns-then-not-is_same : goal.prim-returns-then-not-is_same
unfolding prim_with
prim-returns-then-not-is_same t c =
    refused_first c.args.tokens.now c.first-item.result (token.Mark c.in-Mark.span c.in-Mark.mark) c.in-len1-up.len_at_least c.first-item.is c.in-Mark.is (prim_from c.args.room (inside_at c.args.room))
    (λ ts. ap (λ (b : Bool). if b then parens_at c.args.room (inside_at c.args.room) c.in-Mark.span ts else refused ts) (sym c.is_same.ensures ∙ c.if-not-is_same.true))

pub prim-returns-else-not-is_same : goal.prim-returns-else-not-is_same
unfolding prim_with
prim-returns-else-not-is_same t c =
    rw (at_first c.args.tokens.now c.first-item.result (token.Mark c.in-Mark.span c.in-Mark.mark) c.in-len1-up.len_at_least c.first-item.is c.in-Mark.is (prim_at c.args.room)
    ∙ ap (λ (b : Bool). if b then parens_at c.args.room (inside_at c.args.room) c.in-Mark.span (seen (behind_first c.args.tokens.now)) else refused (seen (behind_first c.args.tokens.now))) (sym c.is_same.ensures ∙ c.if-not-is_same.false)) c.parens.ensures

pub prim-returns-in_ok-place-in-Name : goal.prim-returns-in_ok-place-in-Name
unfolding prim_with
prim-returns-in_ok-place-in-Name t c =
    let n = c.in_ok-named-in-Name in
    let k = c.in-Name in
    let read = at_first c.args.tokens.now c.first-item.result (token.Name k.start k.text) c.in-len1-up.len_at_least c.first-item.is k.is (prim_at c.args.room)
    ∙ ap (λ (x : Ident). place_at c.args.room (inside_at c.args.room) x (seen (behind_first c.args.tokens.now)) >>= λ p. Ok (place p.0, p.1)) (sym (named_is n.field-0 (rc_str_bytes k.text) k.start n.ensures.0 n.ensures.1)) in
    read
    ∙ ap (λ (r : Result (Place × List Tok) Stop). r >>= λ p. Ok (place p.0, p.1)) c.in_ok-place-in-Name.ensures
    ∙ ap (λ (e : Expr). Ok (e, seen c.in_ok-place-in-Name.rest.now)) (sym c.value_of.ensures)

pub prim-returns-in_err-place-in-Name : goal.prim-returns-in_err-place-in-Name
unfolding prim_with
prim-returns-in_err-place-in-Name t c =
    let n = c.in_ok-named-in-Name in
    let k = c.in-Name in
    let read = at_first c.args.tokens.now c.first-item.result (token.Name k.start k.text) c.in-len1-up.len_at_least c.first-item.is k.is (prim_at c.args.room)
    ∙ ap (λ (x : Ident). place_at c.args.room (inside_at c.args.room) x (seen (behind_first c.args.tokens.now)) >>= λ p. Ok (place p.0, p.1)) (sym (named_is n.field-0 (rc_str_bytes k.text) k.start n.ensures.0 n.ensures.1)) in
    let p = err_from_is_err_and c.from_residual-in_err-place-in-Name.result c.from_residual-in_err-place-in-Name.ensures.1 in
    rw (p.1, p.2, read) (fails_on c.in_err-place-in-Name.field-0.0 _ _ c.in_err-place-in-Name.ensures)

pub unary-returns-in_ok-new-in-Some : goal.unary-returns-in_ok-new-in-Some
unfolding unary_with
unary-returns-in_ok-new-in-Some t c =
    rw (sym c.in-Some.ensures, c.in_ok-operand-in-Some.ensures)
    (ap (λ (e : the_expr.Expr). Ok (prefix c.in-Some.op c.in-Some.at (expr_of e), seen c.in_ok-operand-in-Some.rest.now)) (sym c.in_ok-new-in-Some.ensures.ok))

pub place-returns : goal.place-returns
unfolding choose
place-returns t c = rw (sym c.is_sign_next.ensures ∙ c.if-is_sign_next.false, sym c.is_sign_next-2.ensures ∙ c.if-is_sign_next-2.false) refl

pub compared-returns-in-None : goal.compared-returns-in-None
unfolding compared_with
compared-returns-in-None t c = rw (c.in_ok-left.ensures, sym c.in-None.ensures) refl

pub compared-returns-in_ok-right-in-Some : goal.compared-returns-in_ok-right-in-Some
unfolding compared_with
compared-returns-in_ok-right-in-Some t c = rw (c.in_ok-left.ensures, sym c.in-Some.ensures, c.in_ok-right-in-Some.ensures) c.joined.ensures

pub links-loop-op-init : goal.links-loop-op-init
links-loop-op-init t c = rw (c.in_ok-push.ensures.items, c.new-links.ensures.items) refl

pub place-returns-then-is_sign_next : goal.place-returns-then-is_sign_next
unfolding choose
place-returns-then-is_sign_next t c = rw (sym c.is_sign_next.ensures ∙ c.if-is_sign_next.true) c.element.ensures
