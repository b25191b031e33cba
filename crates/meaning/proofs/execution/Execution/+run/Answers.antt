use Rattle.core_lang.specs.Cells.{not_null}
use Rattle.meaning.proofs.Leads.{value_there, place_there, truth_there, with_both, stops, global_value}
use Rattle.meaning.proofs.Leads.{print_value, element_at, element_value, field_base, field_value, field_at}
use Rattle.meaning.proofs.Leads.{if_fails, if_else_fails, turns_fail, sequence_goes, sequence_ends}
use Rattle.meaning.proofs.Leads.{sequence_stops}
use Rattle.std.proofs.Common.{◌∙◌, ◌++◌, refl, sym, ap, subst, arith, length, map, drop, Vec, Global}
use Rattle.std.specs.Prelude.{slice_get}
use Rattle.std.proofs.lemmas.Option.{slice_get_read}
use Rattle.core_lang.specs.declared.value.Value.{Value}
use Rattle.core_lang.specs.Whole.{default_local}
use Rattle.meaning.proofs.Calls.{concludes_with, helper_run}
use Rattle.meaning.proofs.Depths.{room, helper_fits, one_less}
use denote.Param.Weighed.{most}
use Rattle.core_lang.specs.declared.tree.Stmt.{size-Stmt}
use Rattle.meaning.specs.Working.Halts.{Follows}
use Rattle.meaning.specs.Working.Execution.{state_of}
use Rattle.meaning.proofs.Blocks.{if_true, if_false, if_else_true, if_else_false, while_is, while_turns}
use Rattle.meaning.proofs.execution.Execution.+run.Goals as goal

pub repeat-loop-left-preserved : goal.repeat-loop-left-preserved
repeat-loop-left-preserved t c = record {
  same =
      while_turns _ c.args.condition.now c.args.body.now c.args.shape.now c.args.bounds.now.turns c.loop-left.left (state_of c.loop-left.self) (state_of c.steps.new.self) _ _ _ c.if-left-eq0.false c.deref.ensures.value c.cells.ensures c.in_ok-is_true.ensures c.if-branch.true
      c.in_ok-steps.ensures.follows
      ∙ c.loop-left.invariant.same;
  keeps = c.in_ok-steps.ensures.keeps ∙ c.loop-left.invariant.keeps;
}

pub run-returns-in-While-clause-follows : goal.run-returns-in-While-clause-follows
run-returns-in-While-clause-follows t c =
    subst (Follows c.repeat.result (state_of c.repeat.new.self))
    (while_is _ _ _ _ _ _ _ _ c.in-While.is c.deref-in-While.ensures.value)
    c.repeat.ensures.follows

pub run-returns-then-branch-clause-follows : goal.run-returns-then-branch-clause-follows
run-returns-then-branch-clause-follows t c =
    subst (Follows c.run_all.result (state_of c.run_all.new.self))
    (if_true _ _ _ _ _ _ _ _ _ _ _ c.in-If.is c.deref-in-If.ensures.value c.cells-in-If.ensures c.in_ok-is_true-in-If.ensures c.if-branch.true c.deref-then-branch.ensures.value)
    c.run_all.ensures.follows

pub run-returns-then-branch-2-clause-follows : goal.run-returns-then-branch-2-clause-follows
run-returns-then-branch-2-clause-follows t c =
    subst (Follows c.run_all-then-branch-2.result (state_of c.run_all-then-branch-2.new.self))
    (if_else_true _ _ _ _ _ _ _ _ _ _ _ _ c.in-IfElse.is c.deref-in-IfElse.ensures.value c.cells-in-IfElse.ensures c.in_ok-is_true-in-IfElse.ensures c.if-branch-2.true c.deref-then-branch-2.ensures.value)
    c.run_all-then-branch-2.ensures.follows

pub run-returns-else-branch-2-clause-follows : goal.run-returns-else-branch-2-clause-follows
run-returns-else-branch-2-clause-follows t c =
    subst (Follows c.run_all-else-branch-2.result (state_of c.run_all-else-branch-2.new.self))
    (if_else_false _ _ _ _ _ _ _ _ _ _ _ _ c.in-IfElse.is c.deref-in-IfElse.ensures.value c.cells-in-IfElse.ensures c.in_ok-is_true-in-IfElse.ensures c.if-branch-2.false c.deref-else-branch-2.ensures.value)
    c.run_all-else-branch-2.ensures.follows

pub run-returns-in_err-cell-in-SetField-clause-follows : goal.run-returns-in_err-cell-in-SetField-clause-follows
run-returns-in_err-cell-in-SetField-clause-follows t c =
    stops _ _ _ _ _ c.from_residual-in_err-cell-in-SetField.ensures.1
    (field_at _ c.args.action.now c.args.shape.now c.args.bounds.now.turns (state_of c.args.self.now) _ _ _ _ c.in-SetField.is _ _ _ (with_both _ _ not_null _ (place_there c.in-SetField.base c.args.shape.now (state_of c.args.self.now) _ _ _ c.deref-in-SetField.ensures.value c.cells-in-SetField.ensures c.in_ok-follow-in-SetField.ensures) c.in_ok-base-in-SetField.ensures)
    (value_there c.in-SetField.value c.args.shape.now (state_of c.args.self.now) _ _ _ c.deref-in-SetField-2.ensures.value c.cells-in-SetField-2.ensures c.in_ok-v-in-SetField.ensures) (sym c.in_err-cell-in-SetField.ensures))

pub run-returns-in_ok-cell-in-SetField-clause-follows : goal.run-returns-in_ok-cell-in-SetField-clause-follows
run-returns-in_ok-cell-in-SetField-clause-follows t c =
    subst (Follows c.write-in-SetField.result (state_of c.write-in-SetField.new.self))
    (sym (field_at _ c.args.action.now c.args.shape.now c.args.bounds.now.turns (state_of c.args.self.now) _ _ _ _ c.in-SetField.is _ _ _ (with_both _ _ not_null _ (place_there c.in-SetField.base c.args.shape.now (state_of c.args.self.now) _ _ _ c.deref-in-SetField.ensures.value c.cells-in-SetField.ensures c.in_ok-follow-in-SetField.ensures) c.in_ok-base-in-SetField.ensures)
    (value_there c.in-SetField.value c.args.shape.now (state_of c.args.self.now) _ _ _ c.deref-in-SetField-2.ensures.value c.cells-in-SetField-2.ensures c.in_ok-v-in-SetField.ensures) (sym c.in_ok-cell-in-SetField.ensures)))
    c.write-in-SetField.ensures.follows

pub run-returns-in_err-v-in-SetField-clause-follows : goal.run-returns-in_err-v-in-SetField-clause-follows
run-returns-in_err-v-in-SetField-clause-follows t c =
    stops _ _ _ _ _ c.from_residual-in_err-v-in-SetField.ensures.1
    (field_value _ c.args.action.now c.args.shape.now c.args.bounds.now.turns (state_of c.args.self.now) _ _ _ _ c.in-SetField.is _ _ (with_both _ _ not_null _ (place_there c.in-SetField.base c.args.shape.now (state_of c.args.self.now) _ _ _ c.deref-in-SetField.ensures.value c.cells-in-SetField.ensures c.in_ok-follow-in-SetField.ensures) c.in_ok-base-in-SetField.ensures)
    (value_there c.in-SetField.value c.args.shape.now (state_of c.args.self.now) _ _ _ c.deref-in-SetField-2.ensures.value c.cells-in-SetField-2.ensures c.in_err-v-in-SetField.ensures))

pub run-returns-in_err-base-in-SetField-clause-follows : goal.run-returns-in_err-base-in-SetField-clause-follows
run-returns-in_err-base-in-SetField-clause-follows t c =
    stops _ _ _ _ _ c.from_residual-in_err-base-in-SetField.ensures.1
    (field_base _ c.args.action.now c.args.shape.now c.args.bounds.now.turns (state_of c.args.self.now) _ _ _ _ c.in-SetField.is _ (with_both _ _ not_null _ (place_there c.in-SetField.base c.args.shape.now (state_of c.args.self.now) _ _ _ c.deref-in-SetField.ensures.value c.cells-in-SetField.ensures c.in_ok-follow-in-SetField.ensures) c.in_err-base-in-SetField.ensures))

pub run-returns-in_ok-v-in-SetElement-clause-follows : goal.run-returns-in_ok-v-in-SetElement-clause-follows
run-returns-in_ok-v-in-SetElement-clause-follows t c =
    subst (Follows c.write-in-SetElement.result (state_of c.write-in-SetElement.new.self))
    (sym (element_value _ c.args.action.now c.args.shape.now c.args.bounds.now.turns (state_of c.args.self.now) _ _ _ c.in-SetElement.is _ _ _ (value_there c.in-SetElement.index c.args.shape.now (state_of c.args.self.now) _ _ _ c.deref-in-SetElement.ensures.value c.cells-in-SetElement.ensures c.in_ok-index-in-SetElement.ensures)
    (sym c.in_ok-cell-in-SetElement.ensures) (value_there c.in-SetElement.value c.args.shape.now (state_of c.args.self.now) _ _ _ c.deref-in-SetElement-2.ensures.value c.cells-in-SetElement-2.ensures c.in_ok-v-in-SetElement.ensures)))
    c.write-in-SetElement.ensures.follows

pub run-returns-in_err-v-in-SetElement-clause-follows : goal.run-returns-in_err-v-in-SetElement-clause-follows
run-returns-in_err-v-in-SetElement-clause-follows t c =
    stops _ _ _ _ _ c.from_residual-in_err-v-in-SetElement.ensures.1
    (element_value _ c.args.action.now c.args.shape.now c.args.bounds.now.turns (state_of c.args.self.now) _ _ _ c.in-SetElement.is _ _ _ (value_there c.in-SetElement.index c.args.shape.now (state_of c.args.self.now) _ _ _ c.deref-in-SetElement.ensures.value c.cells-in-SetElement.ensures c.in_ok-index-in-SetElement.ensures)
    (sym c.in_ok-cell-in-SetElement.ensures) (value_there c.in-SetElement.value c.args.shape.now (state_of c.args.self.now) _ _ _ c.deref-in-SetElement-2.ensures.value c.cells-in-SetElement-2.ensures c.in_err-v-in-SetElement.ensures))

pub run-returns-in_err-cell-in-SetElement-clause-follows : goal.run-returns-in_err-cell-in-SetElement-clause-follows
run-returns-in_err-cell-in-SetElement-clause-follows t c =
    stops _ _ _ _ _ c.from_residual-in_err-cell-in-SetElement.ensures.1
    (element_at _ c.args.action.now c.args.shape.now c.args.bounds.now.turns (state_of c.args.self.now) _ _ _ c.in-SetElement.is _ _ (value_there c.in-SetElement.index c.args.shape.now (state_of c.args.self.now) _ _ _ c.deref-in-SetElement.ensures.value c.cells-in-SetElement.ensures c.in_ok-index-in-SetElement.ensures)
    (sym c.in_err-cell-in-SetElement.ensures))

pub run-returns-in_ok-v-in-Print-clause-follows : goal.run-returns-in_ok-v-in-Print-clause-follows
run-returns-in_ok-v-in-Print-clause-follows t c =
    subst (Follows c.print.result (state_of c.print.new.self))
    (sym (print_value _ c.args.action.now c.args.shape.now c.args.bounds.now.turns (state_of c.args.self.now) _ c.in-Print.is _ (value_there c.in-Print.e c.args.shape.now (state_of c.args.self.now) _ _ _ c.deref-in-Print.ensures.value c.cells-in-Print.ensures c.in_ok-v-in-Print.ensures)))
    c.print.ensures.follows

pub run-returns-in_err-v-in-Print-clause-follows : goal.run-returns-in_err-v-in-Print-clause-follows
run-returns-in_err-v-in-Print-clause-follows t c =
    stops _ _ _ _ _ c.from_residual-in_err-v-in-Print.ensures.1
    (print_value _ c.args.action.now c.args.shape.now c.args.bounds.now.turns (state_of c.args.self.now) _ c.in-Print.is _ (value_there c.in-Print.e c.args.shape.now (state_of c.args.self.now) _ _ _ c.deref-in-Print.ensures.value c.cells-in-Print.ensures c.in_err-v-in-Print.ensures))

pub run-returns-in_ok-v-in-SetGlobal-clause-follows : goal.run-returns-in_ok-v-in-SetGlobal-clause-follows
run-returns-in_ok-v-in-SetGlobal-clause-follows t c =
    subst (Follows c.write.result (state_of c.write.new.self))
    (sym (global_value _ c.args.action.now c.args.shape.now c.args.bounds.now.turns (state_of c.args.self.now) _ _ c.in-SetGlobal.is _ (value_there c.in-SetGlobal.value c.args.shape.now (state_of c.args.self.now) _ _ _ c.deref.ensures.value c.cells.ensures c.in_ok-v-in-SetGlobal.ensures)))
    c.write.ensures.follows

pub run-returns-in_err-is_true-in-If-clause-follows : goal.run-returns-in_err-is_true-in-If-clause-follows
run-returns-in_err-is_true-in-If-clause-follows t c =
    stops _ _ _ _ _ c.from_residual-in_err-is_true-in-If.ensures.1
    (if_fails _ c.args.action.now c.args.shape.now c.args.bounds.now.turns (state_of c.args.self.now) _ _ _ c.in-If.is (truth_there c.in-If.condition c.args.shape.now (state_of c.args.self.now) _ _ _ c.deref-in-If.ensures.value c.cells-in-If.ensures c.in_err-is_true-in-If.ensures))

pub run-returns-in_err-is_true-in-IfElse-clause-follows : goal.run-returns-in_err-is_true-in-IfElse-clause-follows
run-returns-in_err-is_true-in-IfElse-clause-follows t c =
    stops _ _ _ _ _ c.from_residual-in_err-is_true-in-IfElse.ensures.1
    (if_else_fails _ c.args.action.now c.args.shape.now c.args.bounds.now.turns (state_of c.args.self.now) _ _ _ _ c.in-IfElse.is (truth_there c.in-IfElse.condition c.args.shape.now (state_of c.args.self.now) _ _ _ c.deref-in-IfElse.ensures.value c.cells-in-IfElse.ensures c.in_err-is_true-in-IfElse.ensures))

pub run-returns-else-branch-clause-follows : goal.run-returns-else-branch-clause-follows
run-returns-else-branch-clause-follows t c =
    if_false _ _ _ _ _ _ _ _ _ _ c.in-If.is c.deref-in-If.ensures.value c.cells-in-If.ensures c.in_ok-is_true-in-If.ensures c.if-branch.false

pub repeat-returns-in_err-is_true-clause-follows : goal.repeat-returns-in_err-is_true-clause-follows
repeat-returns-in_err-is_true-clause-follows t c =
    stops _ _ _ _ _ c.from_residual.ensures.1
    (turns_fail c.loop-left.left _ _ (state_of c.loop-left.self) _ _ (truth_there c.args.condition.now c.args.shape.now (state_of c.loop-left.self) _ _ _ c.deref.ensures.value c.cells.ensures c.in_err-is_true.ensures) c.loop-left.invariant.same)

pub steps-loop-s-preserved : goal.steps-loop-s-preserved
steps-loop-s-preserved t c = record {
  same = sequence_goes _ c.args.block.now c.loop-s.s-index c.s-item.result c.args.shape.now c.args.bounds.now.turns (state_of c.loop-s.self) _ c.loop-s-test.true c.s-item.is c.loop-s.invariant.same
      (state_of c.run.new.self) c.in_ok-run.ensures.follows;
  keeps = c.in_ok-run.ensures.keeps ∙ c.loop-s.invariant.keeps;
}

pub steps-returns-clause-follows : goal.steps-returns-clause-follows
steps-returns-clause-follows t c =
    sequence_ends _ c.args.block.now c.loop-s.s-index c.args.shape.now c.args.bounds.now.turns (state_of c.loop-s.self) _ c.loop-s-test.false c.loop-s.invariant.same

pub steps-returns-in_err-run-clause-follows : goal.steps-returns-in_err-run-clause-follows
steps-returns-in_err-run-clause-follows t c =
    sequence_stops _ c.args.block.now c.loop-s.s-index c.s-item.result c.args.shape.now c.args.bounds.now.turns (state_of c.loop-s.self) _ c.loop-s-test.true c.s-item.is c.loop-s.invariant.same
    _ _ _ c.from_residual.ensures.1 c.in_err-run.ensures.follows

pub run-returns-in_ok-cell-in-SetField-clause-keeps : goal.run-returns-in_ok-cell-in-SetField-clause-keeps
run-returns-in_ok-cell-in-SetField-clause-keeps t c = c.write-in-SetField.ensures.keeps

pub run-returns-in_ok-v-in-SetElement-clause-keeps : goal.run-returns-in_ok-v-in-SetElement-clause-keeps
run-returns-in_ok-v-in-SetElement-clause-keeps t c = c.write-in-SetElement.ensures.keeps

pub run-returns-else-branch-2-clause-keeps : goal.run-returns-else-branch-2-clause-keeps
run-returns-else-branch-2-clause-keeps t c = c.run_all-else-branch-2.ensures.keeps

pub run-returns-then-branch-2-clause-keeps : goal.run-returns-then-branch-2-clause-keeps
run-returns-then-branch-2-clause-keeps t c = c.run_all-then-branch-2.ensures.keeps

pub run-returns-then-branch-clause-keeps : goal.run-returns-then-branch-clause-keeps
run-returns-then-branch-clause-keeps t c = c.run_all.ensures.keeps

pub run-returns-in_err-cell-in-SetField-clause-keeps : goal.run-returns-in_err-cell-in-SetField-clause-keeps
run-returns-in_err-cell-in-SetField-clause-keeps t c = refl

pub run-returns-in_err-v-in-SetField-clause-keeps : goal.run-returns-in_err-v-in-SetField-clause-keeps
run-returns-in_err-v-in-SetField-clause-keeps t c = refl

pub finish-run_all-requires : goal.finish-run_all-requires
finish-run_all-requires t c =
    let d = c.decreases in
    let same = ap (most size-Stmt) c.deref.ensures.value in
    (omega (arith, d, same), tt)

pub help-finish-ended-requires : goal.help-finish-ended-requires
help-finish-ended-requires t c =
    let there = slice_get_read c.deref.result.now (length c.deref.result.now) c.args.helper c.in-Some.section.now refl c.in-Some.ensures.lookup.3.0 c.in-Some.ensures.lookup.1 in
    let fits = helper_fits c.args.shape.now c.args.helper c.in-Some.section.now (ap (λ xs. slice_get xs c.args.helper) (sym c.deref.ensures.value) ∙ there) in
    let less = one_less c.args.bounds.now.depth (room c.args.shape.now) c.if-bounds-eq0.false in
    let d = c.decreases in
    (omega (arith, fits, less, d), tt)

pub help-returns-clause-follows : goal.help-returns-clause-follows
help-returns-clause-follows t c =
    let a = c.args in
    let there = slice_get_read c.deref.result.now (length c.deref.result.now) a.helper c.in-Some.section.now refl c.in-Some.ensures.lookup.3.0 c.in-Some.ensures.lookup.1 in
    concludes_with c.finish-ended.result (state_of c.finish-ended.new.self) c.replace-callers.result.items _ _
    (helper_run a.bounds.now.depth a.shape.now a.bounds.now.turns a.helper a.arguments.items a.self.now.draft.now a.self.now.prints.items c.in-Some.section.now _
    c.if-bounds-eq0.false (ap (λ xs. slice_get xs a.helper) (sym c.deref.ensures.value) ∙ there)
    (ap (λ (v : Vec Value Global). v.items) c.replace-callers.ensures.after ∙ c.in_ok-locals.ensures
    ∙ ap (λ ls. a.arguments.items ++ map default_local (drop (length a.arguments.items) ls)) c.deref-2.ensures.value))
    c.finish-ended.ensures.follows
