use Rattle.std.proofs.Common.{ap}
use Rattle.code.specs.Working.NumberLists.{number_lists}
use Rattle.lowering.proofs.Steps.{code_emitted, begins_emitted, need_emitted}
use Rattle.lowering.proofs.section.code_of.Goals as goal

pub returns-clause-instructions : goal.returns-clause-instructions
returns-clause-instructions c =
    code_emitted c.in_ok-emitter.emitter c.block.new.self c.end.new.self (number_lists c.args.lists.now) c.args.section.now c.deref.result.now
    (ap (λ l. number_lists l.now) c.in_ok-emitter.ensures.lists) c.in_ok-emitter.ensures.begins c.in_ok-emitter.ensures.code c.deref.ensures.value
    c.in_ok-block.ensures c.in_ok-end.ensures

pub returns-clause-begins : goal.returns-clause-begins
returns-clause-begins c =
    begins_emitted c.in_ok-emitter.emitter c.block.new.self c.end.new.self (number_lists c.args.lists.now) c.args.section.now c.deref.result.now
    (ap (λ l. number_lists l.now) c.in_ok-emitter.ensures.lists) c.in_ok-emitter.ensures.begins c.in_ok-emitter.ensures.code c.deref.ensures.value
    c.in_ok-block.ensures c.in_ok-end.ensures

pub returns-clause-operands : goal.returns-clause-operands
returns-clause-operands c =
    need_emitted c.in_ok-emitter.emitter c.block.new.self c.end.new.self (number_lists c.args.lists.now) c.args.section.now c.deref.result.now
    (ap (λ l. number_lists l.now) c.in_ok-emitter.ensures.lists) c.in_ok-emitter.ensures.begins c.in_ok-emitter.ensures.code c.deref.ensures.value
    c.in_ok-block.ensures c.in_ok-end.ensures c.in_ok-emitter.ensures.operands
