use Rattle.resolution.proofs.WellFormed.{well_formed}
use Rattle.resolution.proofs.GraphFaults.{clean_of}
use Rattle.resolution.proofs.laws.without_helpers.Goals as goal

pub returns : goal.returns
returns c = λ decls program e is none. well_formed decls (clean_of decls e) program is none
