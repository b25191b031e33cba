use Rattle.std.proofs.Common.{arith, subst, length, ◌≤◌}
use Rattle.std.specs.List.{All}
use Rattle.std.proofs.lemmas.List.{take_all}
use Rattle.std.proofs.lemmas.List.Elements.{All-more}
use Rattle.c_language.specs.InC.{IsShort}
use Rattle.c_language.proofs.numbers.are_short.Goals as goal

pub loop-instr-preserved : goal.loop-instr-preserved
loop-instr-preserved c =
    All-more IsShort c.args.code.now c.loop-instr.instr-index _ c.loop-instr-test.true c.loop-instr.invariant c.is_short.ensures

pub returns : goal.returns
returns c =
    let all : length c.args.code.now ≤ c.loop-instr.instr-index = omega (arith, c.loop-instr-test.false) in
    subst (All IsShort) (take_all c.loop-instr.instr-index c.args.code.now all) c.loop-instr.invariant
