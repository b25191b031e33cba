use Rattle.std.proofs.Common.{subst}
use Rattle.std.specs.List.{All}
use Rattle.c_language.specs.Working.Openings.{IsOpeningFitting}
use Rattle.c_language.proofs.Fits.{openings_of}
use Rattle.c_language.proofs.numbers.openings_fit.Goals as goal

pub returns : goal.returns
returns c = openings_of c.args.program.now.cells.items (subst (All IsOpeningFitting) c.deref.ensures.value c.are_fitting.ensures)
