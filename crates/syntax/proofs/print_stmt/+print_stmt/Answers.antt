use Rattle.std.proofs.Common.{refl}
use Rattle.syntax.specs.Views.{stmts_of}
use Rattle.syntax.specs.Working.Printing.{stmts_text}
use Rattle.syntax.proofs.Added.{nothing_added, followed_by, spelled, at_first, item_added, all_added}
use Rattle.syntax.proofs.Pushes.{while_is, loop_is, if_is}
use Rattle.syntax.proofs.print_stmt.+print_stmt.Goals as goal

pub push_braced-returns : goal.push_braced-returns
push_braced-returns t c =
    followed_by (followed_by (followed_by (followed_by c.push_str.ensures (rw (c.deref.ensures.value, c.deeper.ensures) at c.push_stmts.ensures)) c.push_str-2.ensures) c.push_indent.ensures) c.push_str-3.ensures

pub push_else-returns-in-None : goal.push_else-returns-in-None
push_else-returns-in-None t c = rw c.in-None.is (nothing_added _)

pub push_else-returns-in-Some : goal.push_else-returns-in-Some
push_else-returns-in-Some t c = rw c.in-Some.is (followed_by c.push_str.ensures c.push_braced.ensures)

pub push_stmt-returns-in-Let : goal.push_stmt-returns-in-Let
push_stmt-returns-in-Let t c = rw c.in-Let.is ((rw c.deref.ensures at c.push_plain.ensures))

pub push_stmt-returns-in-LetOwned : goal.push_stmt-returns-in-LetOwned
push_stmt-returns-in-LetOwned t c = rw c.in-LetOwned.is ((rw c.deref-in-LetOwned.ensures at c.push_owned.ensures))

pub push_stmt-returns-in-LetCall : goal.push_stmt-returns-in-LetCall
push_stmt-returns-in-LetCall t c = rw c.in-LetCall.is ((rw c.deref-in-LetCall.ensures at c.push_called.ensures))

pub push_stmt-returns-in-Var : goal.push_stmt-returns-in-Var
push_stmt-returns-in-Var t c = rw c.in-Var.is ((rw c.deref-in-Var.ensures at c.push_plain-in-Var.ensures))

pub push_stmt-returns-in-Assign : goal.push_stmt-returns-in-Assign
push_stmt-returns-in-Assign t c = rw c.in-Assign.is (c.push_assignment.ensures)

pub push_stmt-returns-in-If : goal.push_stmt-returns-in-If
push_stmt-returns-in-If t c = rw c.in-If.is ((rw c.deref-in-If.ensures at c.push_if.ensures))

pub push_stmt-returns-in-While : goal.push_stmt-returns-in-While
push_stmt-returns-in-While t c =
    spelled (loop_is c.args.depth c.args.s.now c.in-While.repetition c.in-While.is) (rw c.deref-in-While.ensures at c.push_while.ensures)

pub push_stmt-returns-in-Print : goal.push_stmt-returns-in-Print
push_stmt-returns-in-Print t c = rw c.in-Print.is (c.push_worded.ensures)

pub push_stmt-returns-in-Return : goal.push_stmt-returns-in-Return
push_stmt-returns-in-Return t c = rw c.in-Return.is (c.push_worded-in-Return.ensures)

pub push_stmt-returns-in-Call : goal.push_stmt-returns-in-Call
push_stmt-returns-in-Call t c = rw c.in-Call.is ((rw c.deref-in-Call.ensures at c.push_call.ensures))

pub push_if-returns : goal.push_if-returns
push_if-returns t c =
    spelled (if_is c.args.depth c.args.choice.now) (followed_by (followed_by (followed_by (followed_by c.push_str.ensures c.push_expr.ensures) c.push_str-2.ensures) c.push_braced.ensures) c.push_else.ensures)

pub push_while-returns : goal.push_while-returns
push_while-returns t c =
    spelled (while_is c.args.depth c.args.repetition.now) (followed_by (followed_by (followed_by c.push_str.ensures c.push_expr.ensures) c.push_str-2.ensures) c.push_braced.ensures)

pub push_stmts-stmts-init : goal.push_stmts-stmts-init
push_stmts-stmts-init t c = at_first _ _

pub push_stmts-stmts-preserved : goal.push_stmts-stmts-preserved
push_stmts-stmts-preserved t c =
    item_added (λ l. stmts_text c.args.depth (stmts_of l)) c.args.stmts.now c.stmts.s-index c.s-item.result c.stmts-test.true c.s-item.is refl c.stmts.invariant (followed_by (followed_by c.push_str.ensures c.push_indent.ensures) c.push_stmt.ensures)

pub push_stmts-returns : goal.push_stmts-returns
push_stmts-returns t c =
    all_added (λ l. stmts_text c.args.depth (stmts_of l)) c.args.stmts.now c.stmts.s-index c.stmts-test.false refl c.stmts.invariant
