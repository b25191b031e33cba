use Rattle.lowering.specs.declared.assembler.Connective.TheVariants as connective
use Rattle.std.proofs.Common.{◌≡◌, ◌∙◌, length, max, refl, rules}
use Rattle.lowering.specs.Working.Assembly.{blank, places}
use Rattle.lowering.specs.Working.CodeLists.{conditions_need}
use Rattle.lowering.proofs.Pieces.{none_left, no_need_left, blank_turn, places_turn, test_need_turn}
use Rattle.lowering.proofs.Depths.{and_needs, or_needs}
use Rattle.lowering.proofs.Jumps.{jumps_within, and_emitted, or_emitted}
use Rattle.lowering.proofs.assembler.Assembler.+condition.Goals as goal

pub condition-close-requires : goal.condition-close-requires
condition-close-requires t c =
    jumps_within connective.And _ _ _ _ _ _ _ c.in_ok-operands-in-And.ensures.code c.in_ok-operands-in-And.ensures.jumps c.deref-in-And-3.ensures.value
    c.in_ok-need-in-And.ensures.code

pub condition-close-requires-in-Or : goal.condition-close-requires-in-Or
condition-close-requires-in-Or t c =
    jumps_within connective.Or _ _ _ _ _ _ _ c.in_ok-operands-in-Or.ensures.code c.in_ok-operands-in-Or.ensures.jumps c.deref-in-Or-3.ensures.value
    c.in_ok-need-in-Or.ensures.code

pub condition-returns-in_ok-close-in-And-clause-code : goal.condition-returns-in_ok-close-in-And-clause-code
condition-returns-in_ok-close-in-And-clause-code t c =
    and_emitted _ _ _ _ _ _ _ _ _ _ _ c.in-And.is c.deref-in-And.ensures.value c.deref-in-And-2.ensures c.in_ok-operands-in-And.ensures.code
    c.in_ok-operands-in-And.ensures.jumps c.deref-in-And-3.ensures.value c.in_ok-need-in-And.ensures.code c.in_ok-close-in-And.ensures

pub condition-returns-in_ok-close-in-And-clause-need : goal.condition-returns-in_ok-close-in-And-clause-need
condition-returns-in_ok-close-in-And-clause-need t c =
    and_needs _ _ _ _ _ _ _ _ c.in-And.is c.deref-in-And.ensures.value c.deref-in-And-2.ensures
    c.in_ok-operands-in-And.ensures.need c.in_ok-need-in-And.ensures.need c.max-in-And.ensures

pub condition-returns-in_ok-close-in-Or-clause-code : goal.condition-returns-in_ok-close-in-Or-clause-code
condition-returns-in_ok-close-in-Or-clause-code t c =
    or_emitted _ _ _ _ _ _ _ _ _ _ _ c.in-Or.is c.deref-in-Or.ensures.value c.deref-in-Or-2.ensures c.in_ok-operands-in-Or.ensures.code
    c.in_ok-operands-in-Or.ensures.jumps c.deref-in-Or-3.ensures.value c.in_ok-need-in-Or.ensures.code c.in_ok-close-in-Or.ensures

pub condition-returns-in_ok-close-in-Or-clause-need : goal.condition-returns-in_ok-close-in-Or-clause-need
condition-returns-in_ok-close-in-Or-clause-need t c =
    or_needs _ _ _ _ _ _ _ _ c.in-Or.is c.deref-in-Or.ensures.value c.deref-in-Or-2.ensures
    c.in_ok-operands-in-Or.ensures.need c.in_ok-need-in-Or.ensures.need c.max-in-Or.ensures

pub operands-loop-operand-preserved : goal.operands-loop-operand-preserved
operands-loop-operand-preserved t c =
    let i = c.loop-operand.invariant in
    let deep : c.max-need.result ≡ max c.loop-operand.need c.in_ok-operand_need.operand_need = search rules in
    let code = c.loop-operand.self.instructions.items in
    let one = c.condition.new.self.instructions in
    let two = c.put.new.self.instructions.items in
    record {
      code = blank_turn c.args.connective c.args.operands.now c.loop-operand.operand-index c.operand-item.result c.loop-operand-test.true c.operand-item.is code one.items two c.jump.result
          c.in_ok-operand_need.ensures.code c.in_ok-put.ensures c.jump.ensures ∙ i.code;
      jumps = places_turn c.args.connective c.args.operands.now c.loop-operand.operand-index c.operand-item.result c.loop-operand-test.true c.operand-item.is code one.items two c.jump.result
          c.in_ok-operand_need.ensures.code c.in_ok-put.ensures c.loop-operand.jumps.items c.push.new.self.items c.len.result (c.len.ensures ∙ one.ok.0) c.in_ok-push.ensures.items ∙ i.jumps;
      need = test_need_turn c.args.operands.now c.loop-operand.operand-index c.operand-item.result c.loop-operand-test.true c.operand-item.is
          c.loop-operand.need c.max-need.result c.in_ok-operand_need.operand_need deep c.in_ok-operand_need.ensures.need ∙ i.need;
    }

pub operands-returns-clause-jumps : goal.operands-returns-clause-jumps
operands-returns-clause-jumps t c =
    none_left (places (length c.loop-operand.self.instructions.items)) c.args.operands.now c.loop-operand.operand-index c.loop-operand.jumps.items _ c.loop-operand-test.false refl
    c.loop-operand.invariant.jumps

pub operands-returns-clause-code : goal.operands-returns-clause-code
operands-returns-clause-code t c =
    none_left (blank c.args.connective) c.args.operands.now c.loop-operand.operand-index c.loop-operand.self.instructions.items _ c.loop-operand-test.false refl
    c.loop-operand.invariant.code

pub operands-returns-clause-need : goal.operands-returns-clause-need
operands-returns-clause-need t c =
    no_need_left conditions_need c.args.operands.now c.loop-operand.operand-index c.loop-operand.need _ c.loop-operand-test.false refl
    c.loop-operand.invariant.need
