use Rattle.resolution.proofs.FaultlessPrograms.{faultless}
use Rattle.resolution.proofs.GraphFaults.{clean_of}
use Rattle.resolution.proofs.laws.faultless_are_resolved.Goals as goal

pub returns : goal.returns
returns c = λ decls right e. faultless decls right (clean_of decls e)
