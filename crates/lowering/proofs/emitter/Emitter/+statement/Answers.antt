use Rattle.core_lang.specs.declared.tree.Action.{Bind, Call, Print, SetElement, SetField, SetGlobal, SetLocal}
use Rattle.std.proofs.Common.{◌∙◌, List, refl, ap, subst, arith, length, length-append}
use Rattle.std.proofs.lemmas.Result.{on_ok_weaker}
use Rattle.std.proofs.lemmas.List.{take_all}
use Rattle.core_lang.specs.declared.tree.Stmt.{Stmt}
use Rattle.lowering.specs.Working.Emission.{Emits, sequence_piece}
use Rattle.lowering.proofs.Steps.{block_turn}
use Rattle.lowering.proofs.Statements.{emits_as, open_within, open_grows, choice_emitted, loop_emitted}
use Rattle.lowering.proofs.Statements.{either_emitted, skip_within, if_is, if_else_is, while_is}
use Rattle.lowering.proofs.emitter.Emitter.+statement.Goals as goal

pub block-loop-statement-preserved : goal.block-loop-statement-preserved
block-loop-statement-preserved t c =
    block_turn c.args.statements.now c.loop-statement.statement-index c.statement-item.result c.args.self.now c.loop-statement.self c.statement.new.self
    c.statement-item.is c.loop-statement-test.true c.loop-statement.invariant c.in_ok-statement.ensures

pub choose-land-requires : goal.choose-land-requires
choose-land-requires t c =
    open_within c.args.condition.now c.args.block.now c.args.self.now c.open.new.self c.block.new.self c.in_ok-test_end.test_end
    c.in_ok-test_end.ensures c.in_ok-block.ensures

pub choose-returns : goal.choose-returns
choose-returns t c =
    choice_emitted c.args.condition.now c.args.block.now c.args.self.now c.open.new.self c.block.new.self c.in_ok-test_end.test_end
    c.in_ok-test_end.ensures c.in_ok-block.ensures _ (record { lists = refl; begins = refl; operands = refl }) c.land.ensures

pub repeat-overflow_sub-passed : goal.repeat-overflow_sub-passed
repeat-overflow_sub-passed t c =
    let grows = open_grows c.args.condition.now c.args.body.now c.args.self.now c.open.new.self c.block.new.self c.in_ok-test_end.test_end
    c.in_ok-test_end.ensures c.in_ok-block.ensures in
    omega (arith, grows, c.len-start.ensures ∙ c.args.self.now.code.instructions.ok.0, c.len.ensures ∙ c.block.new.self.code.instructions.ok.0)

pub repeat-land-requires : goal.repeat-land-requires
repeat-land-requires t c =
    let within = open_within c.args.condition.now c.args.body.now c.args.self.now c.open.new.self c.block.new.self c.in_ok-test_end.test_end
    c.in_ok-test_end.ensures c.in_ok-block.ensures in
    omega (arith, within, ap length c.in_ok-put.ensures ∙ length-append c.block.new.self.code.instructions.items _)

pub repeat-returns : goal.repeat-returns
repeat-returns t c =
    loop_emitted c.args.condition.now c.args.body.now c.args.self.now c.open.new.self c.block.new.self c.in_ok-test_end.test_end
    c.in_ok-test_end.ensures c.in_ok-block.ensures c.put.new.self _ c.len-start.result c.len.result (c.len-start.ensures ∙ c.args.self.now.code.instructions.ok.0)
    (c.len.ensures ∙ c.block.new.self.code.instructions.ok.0) c.in_ok-put.ensures (record { lists = refl; begins = refl; operands = refl }) c.land.ensures

pub statement-skip-requires : goal.statement-skip-requires
statement-skip-requires t c =
    open_within c.in-IfElse.condition c.deref-in-IfElse.result.now c.args.self.now c.open.new.self c.block.new.self c.in_ok-test_end-in-IfElse.test_end
    c.in_ok-test_end-in-IfElse.ensures c.in_ok-block-in-IfElse.ensures

pub statement-join-requires : goal.statement-join-requires
statement-join-requires t c =
    skip_within c.block.new.self c.skip.new.self c.block-in-IfElse.new.self c.in_ok-test_end-in-IfElse.test_end c.in_ok-block_end-in-IfElse.block_end _
    c.in_ok-block_end-in-IfElse.ensures c.in_ok-block-in-IfElse-2.ensures

pub statement-returns-in-If : goal.statement-returns-in-If
statement-returns-in-If t c =
    on_ok_weaker c.choose.result (λ e. if_is c.args.action.now c.in-If.condition c.in-If.block c.deref.result.now c.args.self.now c.choose.new.self c.in-If.is c.deref.ensures.value e)
    c.choose.ensures

pub statement-returns-in_ok-block-in-IfElse-2 : goal.statement-returns-in_ok-block-in-IfElse-2
statement-returns-in_ok-block-in-IfElse-2 t c =
    if_else_is c.args.action.now c.in-IfElse.condition c.in-IfElse.block c.in-IfElse.otherwise c.deref-in-IfElse.result.now c.deref-in-IfElse-2.result.now
    c.args.self.now c.join.new.self c.in-IfElse.is c.deref-in-IfElse.ensures.value c.deref-in-IfElse-2.ensures.value
    (either_emitted c.in-IfElse.condition c.deref-in-IfElse.result.now c.args.self.now c.open.new.self c.block.new.self c.in_ok-test_end-in-IfElse.test_end
    c.in_ok-test_end-in-IfElse.ensures c.in_ok-block-in-IfElse.ensures c.deref-in-IfElse-2.result.now c.skip.new.self c.block-in-IfElse.new.self c.join.new.self
    c.in_ok-block_end-in-IfElse.block_end c.in_ok-block_end-in-IfElse.ensures c.in_ok-block-in-IfElse-2.ensures c.join.ensures)

pub statement-returns-in-While : goal.statement-returns-in-While
statement-returns-in-While t c =
    on_ok_weaker c.repeat.result
    (λ e. while_is c.args.action.now c.in-While.condition c.in-While.body c.deref-in-While.result.now c.args.self.now c.repeat.new.self c.in-While.is c.deref-in-While.ensures.value e)
    c.repeat.ensures

pub block-returns : goal.block-returns
block-returns t c =
    subst (λ (ss : List Stmt). Emits c.args.self.now c.loop-statement.self (sequence_piece ss))
    (take_all c.loop-statement.statement-index c.args.statements.now c.loop-statement-test.false) c.loop-statement.invariant

pub statement-returns-in-SetField : goal.statement-returns-in-SetField
statement-returns-in-SetField t c =
    on_ok_weaker c.set_field.result
    (λ e. emits_as c.args.action.now
    (SetField c.in-SetField.base c.in-SetField.structure c.in-SetField.field c.in-SetField.value) c.args.self.now c.set_field.new.self c.in-SetField.is e) c.set_field.ensures

pub statement-returns-in-SetGlobal : goal.statement-returns-in-SetGlobal
statement-returns-in-SetGlobal t c =
    on_ok_weaker c.evaluate-in-SetGlobal.result
    (λ e. emits_as c.args.action.now
    (SetGlobal c.in-SetGlobal.cell c.in-SetGlobal.value) c.args.self.now c.evaluate-in-SetGlobal.new.self c.in-SetGlobal.is e) c.evaluate-in-SetGlobal.ensures

pub statement-returns-in-SetLocal : goal.statement-returns-in-SetLocal
statement-returns-in-SetLocal t c =
    on_ok_weaker c.evaluate-in-SetLocal.result
    (λ e. emits_as c.args.action.now
    (SetLocal c.in-SetLocal.local c.in-SetLocal.value) c.args.self.now c.evaluate-in-SetLocal.new.self c.in-SetLocal.is e) c.evaluate-in-SetLocal.ensures

pub statement-returns-in-Bind : goal.statement-returns-in-Bind
statement-returns-in-Bind t c =
    on_ok_weaker c.evaluate.result (λ e. emits_as c.args.action.now (Bind c.in-Bind.local c.in-Bind.value) c.args.self.now c.evaluate.new.self c.in-Bind.is e) c.evaluate.ensures

pub statement-returns-in-Print : goal.statement-returns-in-Print
statement-returns-in-Print t c =
    on_ok_weaker c.evaluate-in-Print.result (λ e. emits_as c.args.action.now (Print c.in-Print.value) c.args.self.now c.evaluate-in-Print.new.self c.in-Print.is e) c.evaluate-in-Print.ensures

pub statement-returns-in-SetElement : goal.statement-returns-in-SetElement
statement-returns-in-SetElement t c =
    on_ok_weaker c.set_element.result
    (λ e. emits_as c.args.action.now
    (SetElement c.in-SetElement.array c.in-SetElement.index c.in-SetElement.value) c.args.self.now c.set_element.new.self c.in-SetElement.is e) c.set_element.ensures

pub statement-returns-in-Call : goal.statement-returns-in-Call
statement-returns-in-Call t c =
    on_ok_weaker c.stick.result (λ e. emits_as c.args.action.now (Call c.in-Call.helper c.in-Call.arguments c.in-Call.result) c.args.self.now c.stick.new.self c.in-Call.is e) c.stick.ensures
