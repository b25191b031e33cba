use Rattle.std.proofs.Common.{take}
use Rattle.std.specs.List.{All}
use Rattle.c_language.specs.InC.{IsShort}
use Rattle.c_language.proofs.numbers.are_short.Given as goal

abbrev pub invariant-loop-instr : goal.invariant-loop-instr
invariant-loop-instr l = All IsShort (take l.instr-index l.code)
