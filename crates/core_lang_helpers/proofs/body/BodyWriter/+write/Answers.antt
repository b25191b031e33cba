use Rattle.std.proofs.Common.{◌++◌, ◌∙◌, ap, arith, refl}
use Rattle.core_lang.specs.declared.tree.Action.{Bind}
use Rattle.core_lang.specs.Expansion.{one}
use Rattle.core_lang_helpers.specs.Working.Bodies.{bodies, at}
use Rattle.core_lang_helpers.proofs.Rows.{if_written, if_else_written, while_written}
use Rattle.core_lang_helpers.proofs.Steps.{wrote_one_more, block_written, body_written, call_written, result_written}
use Rattle.core_lang_helpers.proofs.Named.{named_one_more, named_if, named_if_else, named_while, named_call}
use Rattle.core_lang_helpers.proofs.Named.{named_nothing}
use Rattle.core_lang_helpers.proofs.Sizes.{size, sizes, size_if, size_if_else, size_while, within, call_falls}
use Rattle.core_lang_helpers.proofs.IdleCalls.{nothing_written, nothing_more}
use Rattle.core_lang_helpers.proofs.body.BodyWriter.+write.Goals as goal

-- ---- blocks of an action

pub action-block-requires : goal.action-block-requires
action-block-requires t c =
    let a = ap size c.in-If.is ∙ size_if c.in-If.condition c.in-If.block in
    let b = ap sizes c.deref.ensures.value in
    let d = c.decreases in
    (omega (arith, a, b, d), tt)

pub action-block-requires-in-IfElse : goal.action-block-requires-in-IfElse
action-block-requires-in-IfElse t c =
    let a = ap size c.in-IfElse.is ∙ size_if_else c.in-IfElse.condition c.in-IfElse.block c.in-IfElse.otherwise in
    let b = ap sizes c.deref-in-IfElse.ensures.value in
    let d = c.decreases in
    (omega (arith, a, b, d), tt)

pub action-block-requires-in-IfElse-2 : goal.action-block-requires-in-IfElse-2
action-block-requires-in-IfElse-2 t c =
    let a = ap size c.in-IfElse.is ∙ size_if_else c.in-IfElse.condition c.in-IfElse.block c.in-IfElse.otherwise in
    let b = ap sizes c.deref-in-IfElse-2.ensures.value in
    let d = c.decreases in
    (omega (arith, a, b, d), tt)

pub action-block-requires-in-While : goal.action-block-requires-in-While
action-block-requires-in-While t c =
    let a = ap size c.in-While.is ∙ size_while c.in-While.condition c.in-While.body in
    let b = ap sizes c.deref-in-While.ensures.value in
    let d = c.decreases in
    (omega (arith, a, b, d), tt)

pub action-returns-in_ok-block-in-If-clause-written : goal.action-returns-in_ok-block-in-If-clause-written
action-returns-in_ok-block-in-If-clause-written t c =
    if_written (bodies c.args.self.now) c.args.action.now c.in-If.condition c.in_ok-condition-in-If.condition c.in-If.block c.in_ok-block-in-If.block
    c.deref.result.now (at c.args.scope.now c.args.locals.now.items) (at c.block.new.scope c.block.new.locals.items) c.in-If.is c.deref.ensures.value
    c.in_ok-condition-in-If.ensures c.in_ok-block-in-If.ensures.written

pub action-returns-in_ok-otherwise-in-IfElse-clause-written : goal.action-returns-in_ok-otherwise-in-IfElse-clause-written
action-returns-in_ok-otherwise-in-IfElse-clause-written t c =
    if_else_written (bodies c.args.self.now) c.args.action.now c.in-IfElse.condition c.in_ok-condition-in-IfElse.condition c.in-IfElse.block
    c.in_ok-block-in-IfElse.block c.in-IfElse.otherwise c.in_ok-otherwise-in-IfElse.otherwise c.deref-in-IfElse.result.now c.deref-in-IfElse-2.result.now
    (at c.args.scope.now c.args.locals.now.items) (at c.block-in-IfElse.new.scope c.block-in-IfElse.new.locals.items)
    (at c.block-in-IfElse-2.new.scope c.block-in-IfElse-2.new.locals.items) c.in-IfElse.is c.deref-in-IfElse.ensures.value c.deref-in-IfElse-2.ensures.value
    c.in_ok-condition-in-IfElse.ensures c.in_ok-block-in-IfElse.ensures.written c.in_ok-otherwise-in-IfElse.ensures.written

pub action-returns-in_ok-body-in-While-clause-written : goal.action-returns-in_ok-body-in-While-clause-written
action-returns-in_ok-body-in-While-clause-written t c =
    while_written (bodies c.args.self.now) c.args.action.now c.in-While.condition c.in_ok-condition-in-While.condition c.in-While.body c.in_ok-body-in-While.body
    c.deref-in-While.result.now (at c.args.scope.now c.args.locals.now.items) (at c.block-in-While.new.scope c.block-in-While.new.locals.items) c.in-While.is
    c.deref-in-While.ensures.value c.in_ok-condition-in-While.ensures c.in_ok-body-in-While.ensures.written

-- ---- statements

pub block-returns-clause-written : goal.block-returns-clause-written
block-returns-clause-written t c =
    let many = c.len-in_scope.ensures ∙ c.args.scope.now.pairs.ok.0 in
    block_written (bodies c.args.self.now) c.args.block.now c.args.scope.now c.statements.new.scope
    record { alloc = c.statements.new.scope.alloc; pairs = c.truncate.new.self; own = c.statements.new.scope.own }
    c.len-in_scope.result _ _ c.new-written.result.items c.statements.new.written.items many c.new-written.ensures.items c.in_ok-statements.ensures.written
    c.truncate.ensures.items refl

pub statements-statement-requires : goal.statements-statement-requires
statements-statement-requires t c =
    let a = within c.args.statements.now c.loop-statement.statement-index c.statement-item.result c.loop-statement-test.true c.statement-item.is in
    let d = c.decreases in
    (omega (arith, a, d), tt)

pub statements-loop-statement-preserved : goal.statements-loop-statement-preserved
statements-loop-statement-preserved t c =
    let list = c.args.statements.now in
    let k = c.loop-statement.statement-index in
    record {
      written = wrote_one_more (bodies c.args.self.now) list k c.statement-item.result (at c.args.scope.now c.args.locals.now.items)
          (at c.loop-statement.scope c.loop-statement.locals.items) (at c.statement.new.scope c.statement.new.locals.items)
          c.args.written.now.items c.loop-statement.written.items c.statement.new.written.items c.loop-statement-test.true c.statement-item.is
          c.loop-statement.invariant.written c.in_ok-statement.ensures.written;
      locals = named_one_more c.args.self.now list k c.statement-item.result c.args.locals.now.items c.loop-statement.locals.items c.statement.new.locals.items
          c.loop-statement-test.true c.statement-item.is c.loop-statement.invariant.locals c.in_ok-statement.ensures.locals;
    }

pub statement-returns-then-is_idle_call-clause-written : goal.statement-returns-then-is_idle_call-clause-written
statement-returns-then-is_idle_call-clause-written t c =
    nothing_written c.args.self.now c.args.statement.now c.args.statement.now.action c.args.scope.now c.args.locals.now.items c.args.written.now.items refl
    c.args.self.now.idle_there (c.is_idle_call.ensures c.if-is_idle_call.true)

pub statement-returns-then-is_idle_call-clause-locals : goal.statement-returns-then-is_idle_call-clause-locals
statement-returns-then-is_idle_call-clause-locals t c =
    nothing_more c.args.self.now c.args.statement.now.action c.args.statement.now.action c.args.locals.now.items refl
    c.args.self.now.idle_there (c.is_idle_call.ensures c.if-is_idle_call.true)

-- ---- bodies and calls

pub body-returns-clause-written : goal.body-returns-clause-written
body-returns-clause-written t c =
    body_written (bodies c.args.self.now) c.args.self.now.section.now c.args.first c.in_ok-scope.scope c.statements.new.scope _ _ c.deref.result.now
    c.args.written.now.items c.statements.new.written.items c.in_ok-result.result c.requires c.in_ok-scope.ensures c.deref.ensures.value
    c.in_ok-statements.ensures.written (c.if-scope-len.false ∙ c.len.ensures ∙ c.args.self.now.section.now.locals.ok.0) c.in_ok-result.ensures

pub call-body-requires : goal.call-body-requires
call-body-requires t c =
    let first = c.len-first.ensures ∙ c.args.locals.now.ok.0 in
    let more = c.in_ok-take_arguments.ensures.count in
    let less = call_falls c.args.self.now c.in_ok-helper.helper c.in-Call.helper c.len.result c.args.statement.now.action c.in_ok-helper.ensures in
    let d = c.decreases in
    (omega (arith, less, d), omega (arith, first, more))

pub call-returns-in_ok-push-in-Some-clause-written : goal.call-returns-in_ok-push-in-Some-clause-written
call-returns-in_ok-push-in-Some-clause-written t c =
    let first = c.len-first.ensures ∙ c.args.locals.now.ok.0 in
    let local = c.len-local.ensures ∙ c.body.new.locals.ok.0 in
    result_written c.args.self.now c.in_ok-helper.helper c.args.statement.now c.in-Call.helper c.in-Call.arguments c.in-Call.result c.deref.result.now c.len.result
    c.args.scope.now c.receive.new.scope c.len-first.result _ _ _ c.in-Some.returned c.in_ok-returned.field-0 c.args.written.now.items c.lets.new.written.items c.body.new.written.items
    c.push.new.self.items first c.in-Call.is c.deref.ensures.value (c.len.ensures ∙ c.in-Call.arguments.ok.0) c.in_ok-helper.ensures c.in_ok-lets.ensures
    c.in_ok-returned.ensures.written c.in-Some.is c.in_ok-receive-in-Some.ensures.received
    (c.in_ok-push-in-Some.ensures.items ∙ ap (λ n. c.body.new.written.items ++ one c.in-Some.returned.start (Bind n c.in-Some.returned.value)) local)

pub call-returns-in_ok-push-in-Some-clause-locals : goal.call-returns-in_ok-push-in-Some-clause-locals
call-returns-in_ok-push-in-Some-clause-locals t c =
    named_call c.args.self.now c.in_ok-helper.helper c.in-Call.helper c.len.result c.args.statement.now.action c.in-Call.arguments c.in-Call.result
    c.args.locals.now.items c.take_arguments.new.locals.items c.body.new.locals.items c.receive.new.locals.items c.in-Call.is c.in_ok-helper.ensures
    c.in_ok-take_arguments.ensures.locals c.in_ok-returned.ensures.locals c.in_ok-receive-in-Some.ensures.locals

pub call-returns-in-None-None-clause-written : goal.call-returns-in-None-None-clause-written
call-returns-in-None-None-clause-written t c =
    let first = c.len-first.ensures ∙ c.args.locals.now.ok.0 in
    call_written c.args.self.now c.in_ok-helper.helper c.args.statement.now c.in-Call.helper c.in-Call.arguments c.in-Call.result c.deref.result.now c.len.result
    c.args.scope.now c.len-first.result _ _ c.in_ok-returned.field-0 c.args.written.now.items c.lets.new.written.items c.body.new.written.items first c.in-Call.is
    c.in-None-None.is-0 c.deref.ensures.value (c.len.ensures ∙ c.in-Call.arguments.ok.0) c.in_ok-helper.ensures c.in_ok-lets.ensures
    c.in_ok-returned.ensures.written c.in-None.is

pub call-returns-in-None-None-clause-locals : goal.call-returns-in-None-None-clause-locals
call-returns-in-None-None-clause-locals t c =
    let inner = c.body.new.locals.items in
    named_call c.args.self.now c.in_ok-helper.helper c.in-Call.helper c.len.result c.args.statement.now.action c.in-Call.arguments c.in-Call.result
    c.args.locals.now.items c.take_arguments.new.locals.items inner inner c.in-Call.is c.in_ok-helper.ensures c.in_ok-take_arguments.ensures.locals
    c.in_ok-returned.ensures.locals
    (named_nothing c.args.self.now c.in-Call.result c.in_ok-helper.helper.section.now.result_type inner c.in-None-None.is-0 c.in-None-None.is-1)

pub action-returns-in_ok-block-in-If-clause-locals : goal.action-returns-in_ok-block-in-If-clause-locals
action-returns-in_ok-block-in-If-clause-locals t c =
    named_if c.args.self.now c.args.action.now c.in-If.condition c.in-If.block c.deref.result.now c.args.locals.now.items c.block.new.locals.items c.in-If.is
    c.deref.ensures.value c.in_ok-block-in-If.ensures.locals

pub action-returns-in_ok-otherwise-in-IfElse-clause-locals : goal.action-returns-in_ok-otherwise-in-IfElse-clause-locals
action-returns-in_ok-otherwise-in-IfElse-clause-locals t c =
    named_if_else c.args.self.now c.args.action.now c.in-IfElse.condition c.in-IfElse.block c.in-IfElse.otherwise c.deref-in-IfElse.result.now
    c.deref-in-IfElse-2.result.now c.args.locals.now.items c.block-in-IfElse.new.locals.items c.block-in-IfElse-2.new.locals.items c.in-IfElse.is
    c.deref-in-IfElse.ensures.value c.deref-in-IfElse-2.ensures.value c.in_ok-block-in-IfElse.ensures.locals c.in_ok-otherwise-in-IfElse.ensures.locals

pub action-returns-in_ok-body-in-While-clause-locals : goal.action-returns-in_ok-body-in-While-clause-locals
action-returns-in_ok-body-in-While-clause-locals t c =
    named_while c.args.self.now c.args.action.now c.in-While.condition c.in-While.body c.deref-in-While.result.now c.args.locals.now.items
    c.block-in-While.new.locals.items c.in-While.is c.deref-in-While.ensures.value c.in_ok-body-in-While.ensures.locals
