use Rattle.resolution.proofs.WellFormed.{checked}
use Rattle.resolution.proofs.GraphFaults.{clean_of, no_graph_fault}
use Rattle.resolution.proofs.laws.resolved_are_checked.Goals as goal

pub returns : goal.returns
returns c = λ decls program e is. checked decls (clean_of decls e) program is c.faultless_keep_limits.ensures (no_graph_fault decls e c.listed_faults.ensures.all)
