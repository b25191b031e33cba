use Rattle.std.proofs.Common.{arith, subst, length, ◌≤◌}
use Rattle.std.specs.List.{All}
use Rattle.std.proofs.lemmas.List.{take_all}
use Rattle.std.proofs.lemmas.List.Elements.{All-more}
use Rattle.c_language.specs.Working.Openings.{IsOpeningFitting}
use Rattle.c_language.proofs.numbers.are_fitting.Goals as goal

pub loop-cell-preserved : goal.loop-cell-preserved
loop-cell-preserved c =
    All-more IsOpeningFitting c.args.cells.now c.loop-cell.cell-index _ c.loop-cell-test.true c.loop-cell.invariant c.is_fitting.ensures

pub returns : goal.returns
returns c =
    let all : length c.args.cells.now ≤ c.loop-cell.cell-index = omega (arith, c.loop-cell-test.false) in
    subst (All IsOpeningFitting) (take_all c.loop-cell.cell-index c.args.cells.now all) c.loop-cell.invariant
