use Rattle.resolution.proofs.TreeGraphs.{graph_is}
use Rattle.resolution.proofs.GraphFaults.{clean_of}
use Rattle.resolution.proofs.laws.graph_of_resolved.Goals as goal

pub returns : goal.returns
returns c = λ decls program e is. graph_is decls (clean_of decls e) program is
