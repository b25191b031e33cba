use Rattle.std.proofs.Common.{take}
use Rattle.std.specs.List.{All}
use Rattle.c_language.specs.Working.Openings.{IsOpeningFitting}
use Rattle.c_language.proofs.numbers.are_fitting.Given as goal

abbrev pub invariant-loop-cell : goal.invariant-loop-cell
invariant-loop-cell l = All IsOpeningFitting (take l.cell-index l.cells)
