use Rattle.std.proofs.Common.{◌≡◌, sym, ap, ◌∙◌, subst, drop, List, []}
use Rattle.std.proofs.Math.ListN.{drop_of_length-le}
use Rattle.std.proofs.lemmas.Result.{IfOk-weaker}
use Rattle.std.specs.Prelude.{option_map, IfOk, OnOk}
use Rattle.syntax.specs.declared.tree.Stmt as tree
use Rattle.syntax.specs.Trees.{Stmt}
use Rattle.syntax.specs.Views.{expr_of, stmt_of, stmts_of, else_of}
use Rattle.resolution.specs.Working.TypedStatements.{prints, returns, block_of, typed_body, typed_stmt}
use Rattle.resolution.specs.Statements.{after, after_else, after_all}
use Rattle.resolution.specs.Working.TypedExpressions.{as_value, fitting, typed}
use Rattle.resolution.specs.Expressions.{want}
use Rattle.resolution.specs.Working.Findings.{found_in}
use Rattle.syntax.specs.Theory.Rows.{while_seen}
use Rattle.resolution.specs.Working.FaultLists.{stmt_faults, stmts_faults, wanted_faults}
use Rattle.resolution.specs.Scopes.{left}
use Rattle.resolution.specs.Theory.Blocks.{left_is}
use Rattle.types_bodies.specs.Working.Checkers.{scope}
use Rattle.types_bodies.specs.Working.Targets.{row_of, part_of}
use Rattle.types_symbols.specs.Theory.Steps.{on_ok, on_ok_by, scope_step}
use Rattle.types_bodies.proofs.Blocks.{let_seen, var_seen, body_joined, body_end, stmt_step, stmt_fault_step}
use Rattle.types_bodies.proofs.Blocks.{while_value, while_faults, if_seen, if_value, if_faults, if_scope}
use Rattle.types_bodies.proofs.Blocks.{otherwise_value}
use Rattle.types_bodies.proofs.stmt.+stmts.Goals as goal

pub check_body-loop-s-preserved : goal.check_body-loop-s-preserved
check_body-loop-s-preserved t c =
    let sc = scope c.loop-s.checker in
    let sc' = scope c.check_stmt.new.checker in
    let items = c.args.stmts.now in
    record {
      value = stmt_step sc sc' items c.loop-s.s-index c.s-item.result _ _ (option_map part_of c.in-Ok.part) _ c.loop-s-test.true c.s-item.is c.in_ok-body.ensures c.in-Ok.ensures.value c.in-Ok.ensures.scope c.loop-s.invariant.value;
      faults = stmt_fault_step sc sc' items c.loop-s.s-index c.s-item.result _ _ _ c.loop-s-test.true c.s-item.is c.in-Ok.ensures.faults c.in-Ok.ensures.scope c.loop-s.invariant.faults;
      scope = scope_step sc sc' _ items c.loop-s.s-index c.s-item.result c.loop-s-test.true c.s-item.is c.in-Ok.ensures.scope c.loop-s.invariant.scope;
    }

pub check_body-returns-clause-value : goal.check_body-returns-clause-value
check_body-returns-clause-value t c =
    let sc = scope c.loop-s.checker in
    let none : drop c.loop-s.s-index c.args.stmts.now ≡ [] = drop_of_length-le c.args.stmts.now c.loop-s-test.false in
    sym (body_end c.loop-s.body) ∙ ap (λ (ls : List tree.Stmt). body_joined (option_map row_of c.loop-s.body) (typed_body sc (stmts_of ls))) (sym none) ∙ c.loop-s.invariant.value

pub check_stmt-returns-in-While-clause-value : goal.check_stmt-returns-in-While-clause-value
check_stmt-returns-in-While-clause-value t c =
    let sc = scope c.args.checker.now in
    subst (λ (s : Stmt). IfOk c.check_repetition.result (λ r. option_map part_of r ≡ typed_stmt sc s)) (while_seen c.args.s.now c.in-While.repetition _ c.in-While.is c.deref-in-While.ensures) c.check_repetition.ensures.value

pub check_stmt-returns-in-While-clause-faults : goal.check_stmt-returns-in-While-clause-faults
check_stmt-returns-in-While-clause-faults t c =
    let sc = scope c.args.checker.now in
    subst (λ (s : Stmt). OnOk c.check_repetition.result (c.check_repetition.new.firsts ≡ found_in c.args.firsts.now (stmt_faults sc s))) (while_seen c.args.s.now c.in-While.repetition _ c.in-While.is c.deref-in-While.ensures) c.check_repetition.ensures.faults

pub check_stmt-returns-in-While-clause-scope : goal.check_stmt-returns-in-While-clause-scope
check_stmt-returns-in-While-clause-scope t c =
    let sc = scope c.args.checker.now in
    subst (λ (s : Stmt). OnOk c.check_repetition.result (scope c.check_repetition.new.checker ≡ after sc s)) (while_seen c.args.s.now c.in-While.repetition _ c.in-While.is c.deref-in-While.ensures) c.check_repetition.ensures.scope

pub check_stmt-returns-in-If-clause-value : goal.check_stmt-returns-in-If-clause-value
check_stmt-returns-in-If-clause-value t c =
    let sc = scope c.args.checker.now in
    subst (λ (s : Stmt). IfOk c.check_choice.result (λ r. option_map part_of r ≡ typed_stmt sc s)) (if_seen c.args.s.now c.in-If.choice _ c.in-If.is c.deref-in-If.ensures) c.check_choice.ensures.value

pub check_stmt-returns-in-If-clause-faults : goal.check_stmt-returns-in-If-clause-faults
check_stmt-returns-in-If-clause-faults t c =
    let sc = scope c.args.checker.now in
    subst (λ (s : Stmt). OnOk c.check_choice.result (c.check_choice.new.firsts ≡ found_in c.args.firsts.now (stmt_faults sc s))) (if_seen c.args.s.now c.in-If.choice _ c.in-If.is c.deref-in-If.ensures) c.check_choice.ensures.faults

pub check_stmt-returns-in-If-clause-scope : goal.check_stmt-returns-in-If-clause-scope
check_stmt-returns-in-If-clause-scope t c =
    let sc = scope c.args.checker.now in
    subst (λ (s : Stmt). OnOk c.check_choice.result (scope c.check_choice.new.checker ≡ after sc s)) (if_seen c.args.s.now c.in-If.choice _ c.in-If.is c.deref-in-If.ensures) c.check_choice.ensures.scope

pub check_choice-returns-clause-value : goal.check_choice-returns-clause-value
check_choice-returns-clause-value t c =
    IfOk-weaker c.check_otherwise.result _ _
    (λ made is. if_value (scope c.args.checker.now) (scope c.check_block.new.checker) c.args.choice.now c.in-Ok.ensures.scope _ _ (option_map part_of made) c.in_ok-condition.ensures.value c.in-Ok.ensures.value is)
    c.check_otherwise.ensures.value

pub check_choice-returns-clause-faults : goal.check_choice-returns-clause-faults
check_choice-returns-clause-faults t c =
    on_ok_by c.check_otherwise.result
    (if_faults (scope c.args.checker.now) (scope c.check_block.new.checker) c.args.choice.now c.in-Ok.ensures.scope _ _ _ _ c.in_ok-condition.ensures.faults c.in-Ok.ensures.faults)
    c.check_otherwise.ensures.faults

pub check_choice-returns-clause-scope : goal.check_choice-returns-clause-scope
check_choice-returns-clause-scope t c =
    on_ok_by c.check_otherwise.result (if_scope (scope c.args.checker.now) (scope c.check_block.new.checker) c.args.choice.now c.in-Ok.ensures.scope _) c.check_otherwise.ensures.scope

pub check_block-returns-clause-scope : goal.check_block-returns-clause-scope
check_block-returns-clause-scope t c =
    let sc = scope c.args.checker.now in
    left_is sc (scope c.check_body.new.checker) (scope c.hide_from.new.self) c.next-ahead.result (stmts_of c.deref.result.now) c.next-ahead.ensures c.in_ok-body.ensures.scope c.hide_from.ensures
    ∙ ap (λ ss. left sc (after_all sc (stmts_of ss))) c.deref.ensures.value

pub check_repetition-returns-clause-value : goal.check_repetition-returns-clause-value
check_repetition-returns-clause-value t c =
    while_value (scope c.args.checker.now) c.args.repetition.now _ _ _ c.repeat.ensures c.in_ok-condition.ensures.value c.in-Ok.ensures.value

pub check_repetition-returns-clause-faults : goal.check_repetition-returns-clause-faults
check_repetition-returns-clause-faults t c =
    while_faults (scope c.args.checker.now) c.args.repetition.now _ _ _ c.in_ok-condition.ensures.faults c.in-Ok.ensures.faults

pub check_repetition-returns-clause-scope : goal.check_repetition-returns-clause-scope
check_repetition-returns-clause-scope t c = c.in-Ok.ensures.scope

pub check_body-returns-clause-faults : goal.check_body-returns-clause-faults
check_body-returns-clause-faults t c =
    let sc = scope c.loop-s.checker in
    let none : drop c.loop-s.s-index c.args.stmts.now ≡ [] = drop_of_length-le c.args.stmts.now c.loop-s-test.false in
    ap (λ (ls : List tree.Stmt). found_in c.loop-s.firsts (stmts_faults sc (stmts_of ls))) (sym none) ∙ c.loop-s.invariant.faults

pub check_body-returns-clause-scope : goal.check_body-returns-clause-scope
check_body-returns-clause-scope t c =
    let sc = scope c.loop-s.checker in
    let none : drop c.loop-s.s-index c.args.stmts.now ≡ [] = drop_of_length-le c.args.stmts.now c.loop-s-test.false in
    ap (λ (ls : List tree.Stmt). after_all sc (stmts_of ls)) (sym none) ∙ c.loop-s.invariant.scope

pub check_stmt-returns-in-Let-clause-value : goal.check_stmt-returns-in-Let-clause-value
check_stmt-returns-in-Let-clause-value t c =
    subst (λ (s : Stmt). IfOk c.check_local.result (λ r. option_map part_of r ≡ typed_stmt (scope c.args.checker.now) s)) (let_seen c.args.s.now c.in-Let.local _ c.in-Let.is c.deref.ensures) c.check_local.ensures.value

pub check_stmt-returns-in-Let-clause-faults : goal.check_stmt-returns-in-Let-clause-faults
check_stmt-returns-in-Let-clause-faults t c =
    subst (λ (s : Stmt). OnOk c.check_local.result (c.check_local.new.firsts ≡ found_in c.args.firsts.now (stmt_faults (scope c.args.checker.now) s))) (let_seen c.args.s.now c.in-Let.local _ c.in-Let.is c.deref.ensures) c.check_local.ensures.faults

pub check_stmt-returns-in-Let-clause-scope : goal.check_stmt-returns-in-Let-clause-scope
check_stmt-returns-in-Let-clause-scope t c =
    subst (λ (s : Stmt). OnOk c.check_local.result (scope c.check_local.new.checker ≡ after (scope c.args.checker.now) s)) (let_seen c.args.s.now c.in-Let.local _ c.in-Let.is c.deref.ensures) c.check_local.ensures.scope

pub check_stmt-returns-in-Var-clause-value : goal.check_stmt-returns-in-Var-clause-value
check_stmt-returns-in-Var-clause-value t c =
    subst (λ (s : Stmt). IfOk c.check_local-in-Var.result (λ r. option_map part_of r ≡ typed_stmt (scope c.args.checker.now) s)) (var_seen c.args.s.now c.in-Var.local _ c.in-Var.is c.deref-in-Var.ensures) c.check_local-in-Var.ensures.value

pub check_stmt-returns-in-Var-clause-faults : goal.check_stmt-returns-in-Var-clause-faults
check_stmt-returns-in-Var-clause-faults t c =
    subst (λ (s : Stmt). OnOk c.check_local-in-Var.result (c.check_local-in-Var.new.firsts ≡ found_in c.args.firsts.now (stmt_faults (scope c.args.checker.now) s))) (var_seen c.args.s.now c.in-Var.local _ c.in-Var.is c.deref-in-Var.ensures) c.check_local-in-Var.ensures.faults

pub check_stmt-returns-in-Var-clause-scope : goal.check_stmt-returns-in-Var-clause-scope
check_stmt-returns-in-Var-clause-scope t c =
    subst (λ (s : Stmt). OnOk c.check_local-in-Var.result (scope c.check_local-in-Var.new.checker ≡ after (scope c.args.checker.now) s)) (var_seen c.args.s.now c.in-Var.local _ c.in-Var.is c.deref-in-Var.ensures) c.check_local-in-Var.ensures.scope

pub check_stmt-returns-in-Assign-clause-value : goal.check_stmt-returns-in-Assign-clause-value
check_stmt-returns-in-Assign-clause-value t c =
    subst (λ (s : Stmt). IfOk c.check_assignment.result (λ r. option_map part_of r ≡ typed_stmt (scope c.args.checker.now) s)) (sym (ap stmt_of c.in-Assign.is)) c.check_assignment.ensures.value

pub check_stmt-returns-in-Assign-clause-faults : goal.check_stmt-returns-in-Assign-clause-faults
check_stmt-returns-in-Assign-clause-faults t c =
    subst (λ (s : Stmt). OnOk c.check_assignment.result (c.check_assignment.new.firsts ≡ found_in c.args.firsts.now (stmt_faults (scope c.args.checker.now) s))) (sym (ap stmt_of c.in-Assign.is)) c.check_assignment.ensures.faults

pub check_stmt-returns-in-Assign-clause-scope : goal.check_stmt-returns-in-Assign-clause-scope
check_stmt-returns-in-Assign-clause-scope t c = on_ok c.check_assignment.result (sym (ap (λ s. after (scope c.args.checker.now) (stmt_of s)) c.in-Assign.is))

pub check_stmt-returns-in_ok-value-in-Print-clause-value : goal.check_stmt-returns-in_ok-value-in-Print-clause-value
check_stmt-returns-in_ok-value-in-Print-clause-value t c =
    c.print.ensures ∙ ap (prints c.in-Print.start.start) c.in_ok-value-in-Print.ensures.value ∙ sym (ap (λ s. typed_stmt (scope c.args.checker.now) (stmt_of s)) c.in-Print.is)

pub check_stmt-returns-in_ok-value-in-Print-clause-faults : goal.check_stmt-returns-in_ok-value-in-Print-clause-faults
check_stmt-returns-in_ok-value-in-Print-clause-faults t c =
    c.in_ok-value-in-Print.ensures.faults ∙ sym (ap (λ s. found_in c.args.firsts.now (stmt_faults (scope c.args.checker.now) (stmt_of s))) c.in-Print.is)

pub check_stmt-returns-in_ok-value-in-Print-clause-scope : goal.check_stmt-returns-in_ok-value-in-Print-clause-scope
check_stmt-returns-in_ok-value-in-Print-clause-scope t c = sym (ap (λ s. after (scope c.args.checker.now) (stmt_of s)) c.in-Print.is)

pub check_stmt-returns-in_ok-value-in-Return-clause-value : goal.check_stmt-returns-in_ok-value-in-Return-clause-value
check_stmt-returns-in_ok-value-in-Return-clause-value t c =
    let sc = scope c.args.checker.now in
    c.give.ensures
    ∙ ap (returns c.in-Return.start.start) (c.in_ok-value-in-Return.ensures.value ∙ ap (λ w. as_value (fitting w (typed sc (expr_of c.in-Return.e)))) (c.want.ensures ∙ ap want c.result.ensures))
    ∙ sym (ap (λ s. typed_stmt sc (stmt_of s)) c.in-Return.is)

pub check_stmt-returns-in_ok-value-in-Return-clause-faults : goal.check_stmt-returns-in_ok-value-in-Return-clause-faults
check_stmt-returns-in_ok-value-in-Return-clause-faults t c =
    let sc = scope c.args.checker.now in
    c.in_ok-value-in-Return.ensures.faults
    ∙ ap (λ w. found_in c.args.firsts.now (wanted_faults sc w (expr_of c.in-Return.e))) (c.want.ensures ∙ ap want c.result.ensures)
    ∙ sym (ap (λ s. found_in c.args.firsts.now (stmt_faults sc (stmt_of s))) c.in-Return.is)

pub check_stmt-returns-in_ok-value-in-Return-clause-scope : goal.check_stmt-returns-in_ok-value-in-Return-clause-scope
check_stmt-returns-in_ok-value-in-Return-clause-scope t c = sym (ap (λ s. after (scope c.args.checker.now) (stmt_of s)) c.in-Return.is)

pub check_otherwise-returns-clause-value : goal.check_otherwise-returns-clause-value
check_otherwise-returns-clause-value t c =
    otherwise_value (scope c.args.checker.now) c.args.choice.start _ _ _ _ c.in-Some.other (option_map part_of c.choose_between.result) c.in-Some.is c.in-Ok.ensures.value c.choose_between.ensures

pub check_otherwise-returns-clause-scope : goal.check_otherwise-returns-clause-scope
check_otherwise-returns-clause-scope t c = c.in-Ok.ensures.scope ∙ sym (ap (λ o. after_else (scope c.args.checker.now) (else_of o)) c.in-Some.is)

pub check_otherwise-returns-in_default-clause-scope : goal.check_otherwise-returns-in_default-clause-scope
check_otherwise-returns-in_default-clause-scope t c = sym (ap (λ o. after_else (scope c.args.checker.now) (else_of o)) c.in_default.is)

pub check_block-returns-clause-value : goal.check_block-returns-clause-value
check_block-returns-clause-value t c =
    c.block_of.ensures ∙ ap block_of (c.in_ok-body.ensures.value ∙ ap (λ ss. typed_body (scope c.args.checker.now) (stmts_of ss)) c.deref.ensures.value)
