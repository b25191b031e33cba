use Rattle.std.proofs.Common.{take}
use Rattle.std.specs.List.{All}
use Rattle.c_threads.specs.Working.Codes.{IsShortCode}
use Rattle.c_threads.proofs.meaning.all_are_short.Given as goal

abbrev pub invariant-loop-made : goal.invariant-loop-made
invariant-loop-made l = All IsShortCode (take l.made-index l.code.sections.items)
